use Rattle.msg_queues.proofs.Tables.{created_is_there, removed_is_gone, pushed_back_is_last, pushed_front_is_first, popped_leaves_the_rest, flushed_is_empty}
use Rattle.msg_queues.proofs.Tables.{sizes_stay}
use Rattle.msg_queues.proofs.laws.what_a_call_leaves_of_its_queue.Goals as goal

pub returns : goal.returns
returns c = record {
  created = created_is_there;
  removed = removed_is_gone;
  pushed_back = pushed_back_is_last;
  pushed_front = pushed_front_is_first;
  popped = popped_leaves_the_rest;
  flushed = flushed_is_empty;
  sizes = sizes_stay;
}
