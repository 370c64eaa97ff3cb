use Rattle.std.proofs.Common.{◌≡◌, drop, map}
use Rattle.tx_types.specs.Limits.{priority_count}
use Rattle.kernel_state.specs.Kernel.{blank_kernel}
use Rattle.kernel_state.specs.Sound.{IsSound}
use Rattle.module_manager.specs.Modules.{loaded}
use Rattle.board_core.specs.Boot.{with_spots}
use Rattle.board_core.proofs.loading.kernel_with.Given as goal

-- the spots of the modules that are left complete the whole
abbrev pub invariant-loop-i : goal.invariant-loop-i
invariant-loop-i l = record {
  due : with_spots l.i (map loaded (drop l.i l.rows)) l.kernel ≡ with_spots 0 (map loaded l.rows) blank_kernel;
  sound : IsSound l.kernel;
  levels : l.kernel.ready.levels ≡ priority_count;
}
