use Rattle.module_manager.proofs.Clearing.{Removes, Serving}
use Rattle.module_manager.proofs.Ending.{Ends}
use Rattle.module_manager.proofs.Halted.{Lower, halt_keeps_memory, halt_spares_slots, halt_spares_threads}
use Rattle.module_manager.proofs.laws.a_halt_spares_other_modules.Goals as goal

pub returns : goal.returns
returns c =
    let ends : Ends = record {
      sound = c.a_change_of_state_keeps_sound.ensures.ending;
      serving = c.a_change_of_state_keeps_serving.ensures.ending;
      one = c.an_end_changes_its_thread_alone.ensures.kernel;
      memory = c.an_end_changes_its_thread_alone.ensures.memory;
    } in
    let removes : Removes = record {
      changes = c.a_kernel_stays_sound.ensures.one_slot_changes;
      of_thread = c.a_kernel_stays_sound.ensures.one_thread_is_removed;
      of_object = c.a_removal_keeps_serving.ensures.sound;
      one = c.a_removal_ends_waits_alone.ensures.kernel;
      spares = c.a_removal_ends_waits_alone.ensures.threads;
      memory = c.a_removal_ends_waits_alone.ensures.memory;
    } in
    let serving : Serving = record {
      changes = c.a_change_of_slots_keeps_serving.ensures.changes;
      of_thread = c.a_change_of_slots_keeps_serving.ensures.removed;
      of_object = c.a_removal_keeps_serving.ensures.removed;
    } in
    let lower : Lower = record { ends = ends; removes = removes; serving = serving } in
    record {
      threads = halt_spares_threads lower;
      slots = halt_spares_slots lower;
      memory = halt_keeps_memory lower;
    }
