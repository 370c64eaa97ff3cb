use Rattle.std.proofs.Common.{ℕ, List}
use Rattle.tx_types.specs.declared.kind.Kind.{Kind}
use Rattle.kernel_state.proofs.Row.{running_calls, left_keeps_tables, answered_is_kept, changed_is_kept, done_is_kept, written_is_kept, unless_is_kept}
use Rattle.kernel_state.proofs.Row.{found_is_kept, given_is_kept, either_is_kept}
use Rattle.kernel_state.proofs.RowEnds.{begin_is_kept, more_is_kept, unsatisfied_write_none, wait_end_is_kept}
use Rattle.kernel_state.proofs.laws.a_row_is_made_of_parts.Goals as goal

pub returns : goal.returns
returns c =
    let who = c.who_runs_is_a_thread.ensures in
    record {
      calls = running_calls who.running_is_ready who.ready_is_thread;
      left = left_keeps_tables;
      answered = answered_is_kept;
      changed = changed_is_kept;
      done = done_is_kept;
      written =
          written_is_kept c.a_write_changes_its_range_alone.ensures.length_stays c.a_write_changes_its_bytes_alone.ensures.outside_stays
          c.what_may_be_used_is_in_ram.ensures.in_ram;
      unless = unless_is_kept;
      found = found_is_kept ℕ;
      found_kind = found_is_kept Kind;
      given_name = given_is_kept (List ℕ);
      either = either_is_kept;
      begins = begin_is_kept;
      wait_ends =
          wait_end_is_kept c.a_write_changes_its_range_alone.ensures.length_stays c.a_write_changes_its_bytes_alone.ensures.outside_stays
          c.what_may_be_used_is_in_ram.ensures.in_ram c.a_promised_result_may_be_stored.ensures.kept;
      more = more_is_kept;
      unsatisfied = unsatisfied_write_none;
    }
