use Rattle.std.proofs.Common.{◌≡◌, ◌*◌, ◌++◌, ◌≤◌, drop, length, map, vec_len}
use Rattle.std.specs.Vec.{vec_capacity}
use Rattle.module_manager.specs.Modules.{loaded}
use Rattle.board_core.specs.Boot.{regions_of}
use Rattle.board_core.proofs.loading.regions.Given as goal

-- the regions of the modules that are left complete the whole
abbrev pub invariant-loop-i : goal.invariant-loop-i
invariant-loop-i l = record {
  due : l.regions.items ++ regions_of l.i (map loaded (drop l.i l.rows)) ≡ regions_of 0 (map loaded l.rows);
  count : vec_len l.regions ≡ 2 * l.i;
  room : 2 * length l.rows ≤ vec_capacity l.regions;
}
