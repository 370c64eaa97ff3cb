use Rattle.board_core.proofs.FirstWaits.{boot_begins_none}
use Rattle.board_core.proofs.Waits.{Lower, TableLaws, event_calls, event_raises, gone_is_over, tally_stays}
use Rattle.board_core.proofs.laws.no_wait_is_lost.Goals as goal

pub returns : goal.returns
returns c =
    let lower : Lower = record {
      is_ready = c.who_runs_is_a_thread.ensures.running_is_ready;
      is_thread = c.who_runs_is_a_thread.ensures.ready_is_thread;
      hart = c.a_kernel_stays_sound.ensures.one_hart_changes;
      call = c.a_call_calls_waits.ensures;
      call_raises = c.a_call_raises_counts_by_one.ensures;
      halt = c.a_halt_ends_waits.ensures.waits;
      halt_raises = c.a_halt_ends_waits.ensures.counts;
      tick = c.a_change_calls_waits.ensures.tick;
      left = c.a_change_calls_waits.ensures.left;
      tick_raises = c.a_change_raises_counts_by_one.ensures.tick;
    } in
    let table : TableLaws = record {
      table = c.calls_keep_the_table.ensures.calls;
      account = c.no_number_is_given_twice.ensures.calls;
      count = c.totals_count_the_ends.ensures.calls;
      whole = c.begun_is_pending_and_ended.ensures.calls;
    } in
    record {
      booted = boot_begins_none c.a_start_keeps_waits.ensures c.no_number_is_given_twice.ensures.histories
          c.totals_count_the_ends.ensures.histories c.begun_is_pending_and_ended.ensures.new;
      tally = tally_stays table (event_calls lower);
      gone = gone_is_over lower;
      counts = event_raises lower;
    }
