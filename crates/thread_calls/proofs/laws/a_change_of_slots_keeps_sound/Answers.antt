use Rattle.thread_calls.proofs.SlotChanges.{allocate_keeps_sound, deallocate_keeps_sound, grant_keeps_sound}
use Rattle.thread_calls.proofs.laws.a_change_of_slots_keeps_sound.Goals as goal

pub returns : goal.returns
returns c =
    let changes = c.a_kernel_stays_sound.ensures.one_slot_changes in
    record {
      allocate = allocate_keeps_sound changes;
      deallocate = deallocate_keeps_sound changes;
      grant = grant_keeps_sound changes;
    }
