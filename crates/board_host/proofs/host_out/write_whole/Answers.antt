use Rattle.board_host.proofs.Pieces.{under_way_failed}
use Rattle.board_host.proofs.host_out.write_whole.Goals as goal

pub returns-in_err-count-clause-wrote : goal.returns-in_err-count-clause-wrote
returns-in_err-count-clause-wrote g c = under_way_failed _ _ _ _ _ _ c.from_residual.ensures.0 c.loop-rest.invariant c.in_err-count.ensures.wrote
