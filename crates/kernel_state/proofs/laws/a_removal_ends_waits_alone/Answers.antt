use Rattle.kernel_state.specs.ObjectLaws.{RemovedCallsWaits, RemovedRaisesNone, RemovedSparesThreads}
use Rattle.kernel_state.proofs.Removal.{removed_calls_waits, removed_changes_one, removed_ends_them, removed_is_kept, removed_keeps_memory, removed_raises_none, removed_spares_threads}
use Rattle.kernel_state.proofs.laws.a_removal_ends_waits_alone.Goals as goal

pub returns : goal.returns
returns c =
    let all = c.all_ends_end_waits_alone.ensures in
    let parts = c.a_row_is_made_of_parts.ensures in
    let calls : RemovedCallsWaits = removed_calls_waits all.calls c.a_change_calls_waits.ensures.left c.a_change_calls_waits.ensures.followed in
    let threads : RemovedSparesThreads = removed_spares_threads all.threads in
    let counts : RemovedRaisesNone = removed_raises_none c.a_change_raises_counts_by_one.ensures.wait_ends in
    record {
      calls = calls;
      them = removed_ends_them;
      memory = removed_keeps_memory;
      kernel = removed_changes_one;
      threads = threads;
      counts = counts;
      kept = removed_is_kept c.who_waits_at_a_place.ensures.each parts.calls parts.done threads calls counts;
    }
