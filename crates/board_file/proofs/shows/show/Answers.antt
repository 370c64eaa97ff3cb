use Rattle.std.proofs.Common.{refl}
use Rattle.board_file.specs.Board.{show_of}
use Rattle.board_file.proofs.Steps.{exits}
use Rattle.board_file.proofs.shows.show.Goals as goal

pub returns-in_err-module : goal.returns-in_err-module
unfolding show_of
returns-in_err-module c =
    exits (λ x. x) _ _ _ _ c.from_residual.ensures.1 c.in_err-module.ensures

pub returns-in_err-offset : goal.returns-in_err-offset
unfolding show_of
returns-in_err-offset c =
    rw c.in_ok-module.ensures (exits (λ x. x) _ _ _ _ c.from_residual-in_err-offset.ensures.1 c.in_err-offset.ensures)

pub returns-in_err-words : goal.returns-in_err-words
unfolding show_of
returns-in_err-words c =
    rw (c.in_ok-module.ensures, c.in_ok-offset.ensures) (exits (λ x. x) _ _ _ _ c.from_residual-in_err-words.ensures.1 c.in_err-words.ensures)

pub returns-in_err-nothing_else : goal.returns-in_err-nothing_else
unfolding show_of
returns-in_err-nothing_else c =
    rw (c.in_ok-module.ensures, c.in_ok-offset.ensures, c.in_ok-words.ensures)
    (exits (λ x. x) _ _ _ _ c.from_residual-in_err-nothing_else.ensures.1 c.in_err-nothing_else.ensures)

pub returns : goal.returns
unfolding show_of
returns c =
    rw (c.in_ok-module.ensures, c.in_ok-offset.ensures, c.in_ok-words.ensures, c.in_ok-nothing_else.ensures) refl
