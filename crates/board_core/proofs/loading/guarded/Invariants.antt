use Rattle.std.proofs.Common.{◌≡◌, take}
use Rattle.board_core.proofs.loading.guarded.Given as goal

abbrev pub invariant-loop-r : goal.invariant-loop-r
invariant-loop-r l = l.guard ≡ record { regions = take l.r-index l.regions; bytes = l.fn.ram }
