use Rattle.object_calls.proofs.EachRow.{each_row_is_one}
use Rattle.object_calls.proofs.laws.each_row_is_one.Goals as goal

pub returns : goal.returns
returns c =
    let rows = c.a_row_is_made_of_parts.ensures in
    let calls = c.a_change_calls_waits.ensures in
    let ends = c.all_ends_end_waits_alone.ensures in
    let contents = c.what_is_in_an_object_changes.ensures in
    each_row_is_one (record {
      calls = rows.calls;
      tables = rows.left;
      answered = rows.answered;
      done = rows.done;
      written = rows.written;
      unless = rows.unless;
      found = rows.found;
      given_name = rows.given_name;
      either = rows.either;
      begins = rows.begins;
      ends = rows.wait_ends;
      more = rows.more;
      removed = c.a_removal_ends_waits_alone.ensures.kept;
      prioritized = c.an_order_changes_waits_alone.ensures.kept;
      all_ends = record {
        calls = ends.calls;
        left = calls.left;
        followed = calls.followed;
        memory = ends.memory;
        kernel = ends.kernel;
        threads = ends.threads;
        counts = ends.counts;
      };
      waiter = contents.waiter;
      none_for_room = contents.none_for_room;
      none_for_instance = contents.none_for_instance;
      refill = contents.refill;
      as_many = c.words_are_as_many.ensures;
      running_is_ready = c.who_runs_is_a_thread.ensures.running_is_ready;
    })
