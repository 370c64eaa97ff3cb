use Rattle.module_manager.proofs.Clearing.{Removes}
use Rattle.module_manager.proofs.Ending.{Ends}
use Rattle.module_manager.proofs.HaltedWaits.{WaitLaws, halt_calls_waits, halt_raises_none}
use Rattle.module_manager.proofs.laws.a_halt_ends_waits.Goals as goal

pub returns : goal.returns
returns c =
    let ends : Ends = record {
      sound = c.a_change_of_state_keeps_sound.ensures.ending;
      serving = c.a_change_of_state_keeps_serving.ensures.ending;
      one = c.an_end_changes_its_thread_alone.ensures.kernel;
      memory = c.an_end_changes_its_thread_alone.ensures.memory;
    } in
    let removes : Removes = record {
      changes = c.a_kernel_stays_sound.ensures.one_slot_changes;
      of_thread = c.a_kernel_stays_sound.ensures.one_thread_is_removed;
      of_object = c.a_removal_keeps_serving.ensures.sound;
      one = c.a_removal_ends_waits_alone.ensures.kernel;
      spares = c.a_removal_ends_waits_alone.ensures.threads;
      memory = c.a_removal_ends_waits_alone.ensures.memory;
    } in
    let calls = c.a_change_calls_waits.ensures in
    let laws : WaitLaws = record {
      sound = c.a_change_of_state_keeps_sound.ensures.ending;
      calls = calls.thread_ends;
      only_ends = calls.only_ends;
      left = calls.left;
      followed = calls.followed;
      removed_calls = c.a_removal_ends_waits_alone.ensures.calls;
      ends = ends;
      removes = removes;
    } in
    record {
      counts = halt_raises_none c.a_change_raises_counts_by_one.ensures.thread_ends c.a_removal_ends_waits_alone.ensures.counts;
      waits = halt_calls_waits laws;
    }
