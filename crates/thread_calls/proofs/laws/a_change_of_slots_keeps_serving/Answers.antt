use Rattle.thread_calls.proofs.SlotServing.{allocate_keeps_serving, deallocate_keeps_serving, grant_keeps_serving, placed_keeps_serving, removed_keeps_serving, slot_keeps_serving}
use Rattle.thread_calls.proofs.laws.a_change_of_slots_keeps_serving.Goals as goal

pub returns : goal.returns
returns c =
    let keeps = c.a_change_of_slots_keeps_sound.ensures in
    let stays = c.a_kernel_stays_sound.ensures in
    let promises = c.a_promised_result_may_be_stored.ensures.stays in
    record {
      allocate = allocate_keeps_serving keeps.allocate promises;
      deallocate = deallocate_keeps_serving keeps.deallocate promises;
      grant = grant_keeps_serving keeps.grant promises;
      placed = placed_keeps_serving stays.one_thread_is_made promises;
      removed = removed_keeps_serving stays.one_thread_is_removed c.who_runs_is_a_thread.ensures.thread_is_right promises;
      changes = slot_keeps_serving stays.one_slot_changes promises;
    }
