use Rattle.board_file.proofs.Steps.{exits}
use Rattle.board_file.proofs.devices.target.Goals as goal

pub returns-in_err-forbidden-in-Tick : goal.returns-in_err-forbidden-in-Tick
returns-in_err-forbidden-in-Tick c =
    rw c.in-Tick.is (exits (λ x. x) _ _ _ _ c.from_residual.ensures.1 c.in_err-forbidden-in-Tick.ensures)
