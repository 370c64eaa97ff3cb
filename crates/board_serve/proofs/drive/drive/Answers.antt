use Rattle.std.proofs.Common.{arith}
use Rattle.std.proofs.lemmas.Result.{err_from_is_err_and}
use Rattle.board_serve.proofs.drive.drive.Goals as goal

pub returns-in_err-some-clause-wrote : goal.returns-in_err-some-clause-wrote
returns-in_err-some-clause-wrote g c first start le so_far =
    let p = err_from_is_err_and c.from_residual.result c.from_residual.ensures.1 in
    rw p.1 (c.in_err-some.ensures.wrote first start (omega (arith, le, c.loop.invariant.faults)) (c.loop.invariant.wrote start so_far))
