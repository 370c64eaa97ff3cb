use Rattle.board_core.proofs.Owned.{Lower, fault_is_kept, owners_stay, runner_is_started}
use Rattle.board_core.proofs.laws.slots_are_of_started_modules.Goals as goal

pub returns : goal.returns
returns c =
    let lower : Lower = record {
      is_ready = c.who_runs_is_a_thread.ensures.running_is_ready;
      is_thread = c.who_runs_is_a_thread.ensures.ready_is_thread;
      hart = c.a_kernel_stays_sound.ensures.one_hart_changes;
      slots = c.a_call_changes_slots_once.ensures;
      removed = c.a_removal_ends_waits_alone.ensures.kernel;
      no_slots = c.a_halt_ends_its_module.ensures.slots;
      no_grants = c.a_halt_ends_its_module.ensures.grants;
    } in
    record { owners = owners_stay lower; runner = runner_is_started lower; fault = fault_is_kept lower }
