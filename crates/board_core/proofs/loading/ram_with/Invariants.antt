use Rattle.std.proofs.Common.{◌≡◌, drop, length, map, replicate}
use Rattle.module_manager.specs.Modules.{loaded}
use Rattle.board_core.specs.Boot.{contents, with_images}
use Rattle.board_core.proofs.loading.ram_with.Given as goal

-- the images that are left complete the whole
abbrev pub invariant-loop-i : goal.invariant-loop-i
invariant-loop-i l = record {
  due : with_images l.ram (contents (drop l.i l.images)) (map loaded (drop l.i l.rows)) ≡ with_images (replicate l.size 0) (contents l.images)
      (map loaded l.rows);
  size : length l.ram ≡ l.size;
}
