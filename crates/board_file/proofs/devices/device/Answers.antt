use Rattle.std.proofs.Common.{ℕ, Vec, refl}
use Rattle.std.specs.declared.alloc.Global.{Global}
use Rattle.board_file.specs.Board.{device_of}
use Rattle.board_file.proofs.Steps.{exits}
use Rattle.board_file.proofs.devices.device.Goals as goal

pub returns-in_err-name-clause-device : goal.returns-in_err-name-clause-device
unfolding device_of
returns-in_err-name-clause-device c =
    exits (λ x. x) _ _ _ _ c.from_residual.ensures.1 c.in_err-name.ensures

pub returns-in_err-action-clause-device : goal.returns-in_err-action-clause-device
unfolding device_of
returns-in_err-action-clause-device c =
    rw c.in_ok-name.ensures (exits (λ x. x) _ _ _ _ c.from_residual-in_err-action.ensures.1 c.in_err-action.ensures)

pub returns-in_err-target-clause-device : goal.returns-in_err-target-clause-device
unfolding device_of
returns-in_err-target-clause-device c =
    rw (c.in_ok-name.ensures, c.in_ok-action.ensures) (exits (λ x. x) _ _ _ _ c.from_residual-in_err-target.ensures.1 c.in_err-target.ensures)

pub returns-in_err-words-clause-device : goal.returns-in_err-words-clause-device
unfolding device_of
returns-in_err-words-clause-device c =
    rw (c.in_ok-name.ensures, c.in_ok-action.ensures, c.in_ok-target.ensures)
    (exits (λ (v : Vec ℕ Global). v.items) _ _ _ _ c.from_residual-in_err-words.ensures.1 c.in_err-words.ensures)

pub returns-in_err-repeat-clause-device : goal.returns-in_err-repeat-clause-device
unfolding device_of
returns-in_err-repeat-clause-device c =
    rw (c.in_ok-name.ensures, c.in_ok-action.ensures, c.in_ok-target.ensures, c.in_ok-words.ensures)
    (exits (λ x. x) _ _ _ _ c.from_residual-in_err-repeat.ensures.1 c.in_err-repeat.ensures)

pub returns-in_err-script-clause-device : goal.returns-in_err-script-clause-device
unfolding device_of
returns-in_err-script-clause-device c =
    rw (
      c.in_ok-name.ensures,
      c.in_ok-action.ensures,
      c.in_ok-target.ensures,
      c.in_ok-words.ensures,
      c.in_ok-repeat.ensures,
      ← c.requires.words,
      ← c.deref.ensures.value,
    ) (exits (λ x. x) _ _ _ _ c.from_residual-in_err-script.ensures.1 c.in_err-script.ensures.script)

pub returns-in_err-nothing_else-clause-device : goal.returns-in_err-nothing_else-clause-device
unfolding device_of
returns-in_err-nothing_else-clause-device c =
    rw (
      c.in_ok-name.ensures,
      c.in_ok-action.ensures,
      c.in_ok-target.ensures,
      c.in_ok-words.ensures,
      c.in_ok-repeat.ensures,
      ← c.requires.words,
      ← c.deref.ensures.value,
      c.in_ok-script.ensures.script,
    )
    (exits (λ x. x) _ _ _ _ c.from_residual-in_err-nothing_else.ensures.1 c.in_err-nothing_else.ensures)

pub returns-clause-device : goal.returns-clause-device
unfolding device_of
returns-clause-device c =
    rw (
      c.in_ok-name.ensures,
      c.in_ok-action.ensures,
      c.in_ok-target.ensures,
      c.in_ok-words.ensures,
      c.in_ok-repeat.ensures,
      ← c.requires.words,
      ← c.deref.ensures.value,
      c.in_ok-script.ensures.script,
      c.in_ok-nothing_else.ensures,
    ) refl
