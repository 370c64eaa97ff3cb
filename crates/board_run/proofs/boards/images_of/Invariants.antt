use Rattle.std.proofs.Common.{◌≡◌, ℕ, ◌≤◌, IfSome, Vec, drop, map, vec_len}
use Rattle.std.specs.declared.alloc.Global.{Global}
use Rattle.board_run.specs.Boards.{images_at}
use Rattle.board_run.specs.Held.{image_at}
use Rattle.board_run.specs.Step.{each}
use Rattle.board_run.proofs.Step.{with_front}
use Rattle.board_run.proofs.boards.images_of.Given as goal

-- what is left to read completes what is due
abbrev pub invariant-loop-i : goal.invariant-loop-i
invariant-loop-i g l = record {
  held : g.F.Files.held l.files ≡ g.F.Files.held l.fn.files;
  counted : g.F.Files.faults l.fn.files ≤ g.F.Files.faults l.files;
  due : IfSome (g.F.Files.held l.fn.files) (λ at. with_front
      (map (λ (v : Vec ℕ Global). v.items) l.images.items) (each (λ i m. image_at i m.image at) l.i (drop l.i l.modules)) ≡ images_at l.modules at);
  count : vec_len l.images ≡ l.i;
}
