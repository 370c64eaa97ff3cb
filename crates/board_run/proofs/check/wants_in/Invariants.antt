use Rattle.std.proofs.Common.{◌≡◌, drop, map, vec_len}
use Rattle.board_run.specs.Check.{want_in}
use Rattle.board_run.specs.Step.{each}
use Rattle.board_run.proofs.Step.{with_front}
use Rattle.board_run.proofs.check.wants_in.Given as goal

-- what is left to do completes what is due
abbrev pub invariant-loop-i : goal.invariant-loop-i
invariant-loop-i l = record {
  due : with_front l.wants.items (each want_in l.i (map (λ v. v.items) (drop l.i l.images))) ≡ each want_in 0 (map (λ v. v.items) l.images);
  count : vec_len l.wants ≡ l.i;
}
