use Rattle.kernel_state.specs.ObjectLaws.{PrioritizedCallsWaits}
use Rattle.kernel_state.proofs.Removal.{prioritized_calls_waits, prioritized_changes_order, prioritized_is_kept, prioritized_raises_none}
use Rattle.kernel_state.proofs.laws.an_order_changes_waits_alone.Goals as goal

pub returns : goal.returns
returns c =
    let calls : PrioritizedCallsWaits = prioritized_calls_waits c.who_waits_at_a_place.ensures.each c.a_change_calls_waits.ensures.left in
    record {
      calls = calls;
      order = prioritized_changes_order;
      counts = prioritized_raises_none;
      kept = prioritized_is_kept c.a_row_is_made_of_parts.ensures.done calls;
    }
