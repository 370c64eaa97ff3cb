use Rattle.std.proofs.Common.{refl}
use Rattle.board_file.specs.Board.{module_of}
use Rattle.board_file.proofs.Steps.{exits}
use Rattle.board_file.proofs.modules.module.Goals as goal

pub returns-in_err-name : goal.returns-in_err-name
unfolding module_of
returns-in_err-name c = exits (λ x. x) _ _ _ _ c.from_residual.ensures.1 c.in_err-name.ensures

pub returns-in_err-image : goal.returns-in_err-image
unfolding module_of
returns-in_err-image c =
    rw c.in_ok-name.ensures (exits (λ x. x) _ _ _ _ c.from_residual-in_err-image.ensures.1 c.in_err-image.ensures)

pub returns-in_err-start : goal.returns-in_err-start
unfolding module_of
returns-in_err-start c =
    rw (c.in_ok-name.ensures, c.in_ok-image.ensures) (exits (λ x. x) _ _ _ _ c.from_residual-in_err-start.ensures.1 c.in_err-start.ensures)

pub returns-in_err-nothing_else : goal.returns-in_err-nothing_else
unfolding module_of
returns-in_err-nothing_else c =
    rw (c.in_ok-name.ensures, c.in_ok-image.ensures, c.in_ok-start.ensures)
    (exits (λ x. x) _ _ _ _ c.from_residual-in_err-nothing_else.ensures.1 c.in_err-nothing_else.ensures)

pub returns : goal.returns
unfolding module_of
returns c = rw (c.in_ok-name.ensures, c.in_ok-image.ensures, c.in_ok-start.ensures, c.in_ok-nothing_else.ensures) refl
