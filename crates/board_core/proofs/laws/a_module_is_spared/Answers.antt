use Rattle.board_core.proofs.Frames.{Lower}
use Rattle.board_core.proofs.Spared.{code_is_in_no_frame, data_is_its_modules, fault_keeps_bytes, fault_spares_others}
use Rattle.board_core.proofs.laws.a_module_is_spared.Goals as goal

pub returns : goal.returns
returns c =
    let lower : Lower = record {
      is_ready = c.who_runs_is_a_thread.ensures.running_is_ready;
      is_thread = c.who_runs_is_a_thread.ensures.ready_is_thread;
      hart = c.a_kernel_stays_sound.ensures.one_hart_changes;
      length_stays = c.a_write_changes_its_range_alone.ensures.length_stays;
      width = c.a_number_lies_lowest_byte_first.ensures.width_is_length;
      outside_stays = c.a_write_changes_its_bytes_alone.ensures.outside_stays;
      in_ram = c.what_may_be_used_is_in_ram.ensures.in_ram;
      call = c.a_call_writes_results_alone.ensures;
      halt = c.a_halt_spares_other_modules.ensures.memory;
    } in
    record {
      code = code_is_in_no_frame lower.is_ready lower.is_thread;
      «data» = data_is_its_modules lower;
      fault = fault_spares_others c.a_halt_spares_other_modules.ensures.threads;
      bytes = fault_keeps_bytes lower;
    }
