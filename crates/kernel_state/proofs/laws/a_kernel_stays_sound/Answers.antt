use Rattle.kernel_state.proofs.Making.{one_thread_is_made, one_thread_is_removed}
use Rattle.kernel_state.proofs.Sound.{sound_from, one_thread_changes, one_state_changes, one_wait_changes, one_hart_changes, one_slot_changes, one_spot_changes}
use Rattle.kernel_state.proofs.laws.a_kernel_stays_sound.Goals as goal

pub returns : goal.returns
returns c = record {
  from = sound_from;
  one_thread_changes = one_thread_changes;
  one_state_changes = one_state_changes;
  one_wait_changes = one_wait_changes;
  one_hart_changes = one_hart_changes;
  one_slot_changes = one_slot_changes;
  one_spot_changes = one_spot_changes;
  one_thread_is_made = one_thread_is_made c.a_move_leaves_others_alone.ensures.priority;
  one_thread_is_removed = one_thread_is_removed;
}
