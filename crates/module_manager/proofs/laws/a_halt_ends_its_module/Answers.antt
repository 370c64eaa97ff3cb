use Rattle.module_manager.proofs.Clearing.{Removes, Serving}
use Rattle.module_manager.proofs.Ending.{Ends}
use Rattle.module_manager.proofs.Halted.{Lower, clearing_keeps_serving, end_keeps_serving, halt_ends_callback, halt_ends_grants, halt_ends_slots, halt_keeps_serving}
use Rattle.module_manager.proofs.laws.a_halt_ends_its_module.Goals as goal

pub returns : goal.returns
returns c =
    let ends : Ends = record {
      sound = c.a_change_of_state_keeps_sound.ensures.ending;
      serving = c.a_change_of_state_keeps_serving.ensures.ending;
      one = c.an_end_changes_its_thread_alone.ensures.kernel;
      memory = c.an_end_changes_its_thread_alone.ensures.memory;
    } in
    let removes : Removes = record {
      changes = c.a_kernel_stays_sound.ensures.one_slot_changes;
      of_thread = c.a_kernel_stays_sound.ensures.one_thread_is_removed;
      of_object = c.a_removal_keeps_serving.ensures.sound;
      one = c.a_removal_ends_waits_alone.ensures.kernel;
      spares = c.a_removal_ends_waits_alone.ensures.threads;
      memory = c.a_removal_ends_waits_alone.ensures.memory;
    } in
    let serving : Serving = record {
      changes = c.a_change_of_slots_keeps_serving.ensures.changes;
      of_thread = c.a_change_of_slots_keeps_serving.ensures.removed;
      of_object = c.a_removal_keeps_serving.ensures.removed;
    } in
    let lower : Lower = record { ends = ends; removes = removes; serving = serving } in
    record {
      slots = halt_ends_slots lower;
      grants = halt_ends_grants lower;
      callback = halt_ends_callback lower;
      serves = halt_keeps_serving lower;
      over = end_keeps_serving ends;
      clearing = clearing_keeps_serving removes serving;
    }
