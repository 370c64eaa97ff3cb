use Rattle.std.proofs.Common.{◌≡◌, ◌≤◌, length, map, take}
use Rattle.std.specs.Vec.{vec_capacity}
use Rattle.module_loader.specs.Want.{want_of}
use Rattle.board_core.proofs.placing.wants.Given as goal

abbrev pub invariant-loop-p : goal.invariant-loop-p
invariant-loop-p l = (l.wants.items ≡ map want_of (take l.p-index l.preambles)) × (length l.preambles ≤ vec_capacity l.wants)
