use Rattle.thread_calls.proofs.EachRow.{each_row_is_one}
use Rattle.thread_calls.proofs.laws.each_row_is_one.Goals as goal

pub returns : goal.returns
returns c =
    let parts = c.a_row_is_made_of_parts.ensures in
    let calls = c.a_change_calls_waits.ensures in
    let counts = c.a_change_raises_counts_by_one.ensures in
    each_row_is_one (record {
      answered = parts.answered;
      changed = parts.changed;
      done = parts.done;
      written = parts.written;
      unless = parts.unless;
      found = parts.found;
      found_kind = parts.found_kind;
      given_name = parts.given_name;
      either = parts.either;
      end_memory = c.an_end_changes_its_thread_alone.ensures.memory;
      end_one = c.an_end_changes_its_thread_alone.ensures.kernel;
      tables = record {
        left = parts.left;
        begins = calls.begins;
        wait_ends = calls.wait_ends;
        thread_ends = calls.thread_ends;
        begin_counts = counts.begins;
        wait_end_counts = counts.wait_ends;
        thread_end_counts = counts.thread_ends;
        waiter = c.who_runs_is_a_thread.ensures.waiter_has_wait;
      };
    })
