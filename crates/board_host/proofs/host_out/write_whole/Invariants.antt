use Rattle.std.proofs.Common.{length}
use Rattle.board_host.proofs.Pieces.{IsUnderWay}
use Rattle.board_host.proofs.host_out.write_whole.Given as goal

-- what is gone from the rest was appended
abbrev pub invariant-loop-rest : goal.invariant-loop-rest
invariant-loop-rest g l = IsUnderWay (g.W.Write.contents l.initial.out) (g.W.Write.contents l.out) l.piece l.rest

-- what is still to be written
abbrev pub decreases-loop-rest : goal.decreases-loop-rest
decreases-loop-rest g l = length l.rest
