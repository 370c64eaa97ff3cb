use Rattle.kernel_state.proofs.ObjectChanges.{TableLaws, count_keeps_serving, emptied_keeps_serving, emptied_keeps_sound, queue_made_keeps_serving, semaphore_made_keeps_serving}
use Rattle.kernel_state.proofs.QueueChanges.{QueueLaws, flush_keeps_serving, pop_keeps_serving, put_keeps_serving, refill_keeps_serving}
use Rattle.kernel_state.proofs.WhoWaits.{none_wait_for_instance, none_wait_for_room, waiter_is_one}
use Rattle.kernel_state.proofs.laws.what_is_in_an_object_changes.Goals as goal

pub returns : goal.returns
returns c =
    let own = c.what_a_call_leaves_of_its_queue.ensures in
    let counts = c.calls_keep_the_counts.ensures in
    let count = c.a_call_changes_its_count_alone.ensures in
    let queues : QueueLaws = record {
      keep = c.calls_keep_the_table.ensures.calls;
      back = own.pushed_back;
      front = own.pushed_front;
      rest = own.popped;
      flush = own.flushed;
      sizes = own.sizes;
    } in
    let tables : TableLaws = record {
      keep_queues = c.calls_keep_the_table.ensures.calls;
      spare_queues = c.a_call_changes_its_queue_alone.ensures;
      created = own.created;
      removed = own.removed;
      keep_counts = counts.sets;
      keep_others = counts.removes;
      spare_counts = count.sets;
      spare_others = count.removes;
      gone = count.is_gone;
    } in
    record {
      waiter = waiter_is_one;
      none_for_room = none_wait_for_room;
      none_for_instance = none_wait_for_instance;
      put = put_keeps_serving queues;
      pop = pop_keeps_serving queues;
      refill = refill_keeps_serving queues;
      flush = flush_keeps_serving queues;
      count = count_keeps_serving tables;
      queue_made = queue_made_keeps_serving tables;
      semaphore_made = semaphore_made_keeps_serving tables;
      emptied = emptied_keeps_serving tables;
      emptied_sound = emptied_keeps_sound tables;
    }
