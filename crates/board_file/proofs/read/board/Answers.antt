use Rattle.std.proofs.Common.{Vec, refl}
use Rattle.std.specs.Borrow.{Bor}
use Rattle.std.specs.declared.alloc.Global.{Global}
use Rattle.toml.specs.Data.{Items}
use Rattle.toml.specs.View.{array_view}
use Rattle.toml.specs.declared.value.Value.{Value}
use Rattle.board_file.specs.Board.{board_of}
use Rattle.board_file.specs.Part.{entries_view}
use Rattle.board_file.proofs.Steps.{exits}
use Rattle.board_file.proofs.read.board.Goals as goal

abbrev entries_of : Bor (Vec Value Global) → Items
entries_of v = array_view v.now

pub returns-in_err-ram : goal.returns-in_err-ram
unfolding board_of
returns-in_err-ram c =
    exits (λ x. x) _ _ _ _ c.from_residual.ensures.1 c.in_err-ram.ensures

pub returns-in_err-steps : goal.returns-in_err-steps
unfolding board_of
returns-in_err-steps c =
    rw c.in_ok-ram.ensures (exits (λ x. x) _ _ _ _ c.from_residual-in_err-steps.ensures.1 c.in_err-steps.ensures)

pub returns-in_err-module_entries : goal.returns-in_err-module_entries
unfolding board_of
returns-in_err-module_entries c =
    rw (c.in_ok-ram.ensures, c.in_ok-steps.ensures)
    (exits entries_of _ _ _ _ c.from_residual-in_err-module_entries.ensures.1 c.in_err-module_entries.ensures.array)

pub returns-in_err-modules : goal.returns-in_err-modules
unfolding board_of
returns-in_err-modules c =
    rw (c.in_ok-ram.ensures, c.in_ok-steps.ensures, c.in_ok-module_entries.ensures.array)
    (exits (λ x. x) _ _ _ _ c.from_residual-in_err-modules.ensures.1 c.in_err-modules.ensures.modules)

pub returns-in_err-forbidden : goal.returns-in_err-forbidden
unfolding board_of
returns-in_err-forbidden c =
    rw (c.in_ok-ram.ensures, c.in_ok-steps.ensures, c.in_ok-module_entries.ensures.array, c.in_ok-modules.ensures.modules)
    (exits (λ x. x) _ _ _ _ c.from_residual-in_err-forbidden.ensures.1 c.in_err-forbidden.ensures)

pub returns-in_err-device_entries : goal.returns-in_err-device_entries
unfolding board_of
returns-in_err-device_entries c =
    rw (c.in_ok-ram.ensures, c.in_ok-steps.ensures, c.in_ok-module_entries.ensures.array, c.in_ok-modules.ensures.modules, c.in_ok-forbidden.ensures)
    (exits entries_view _ _ _ _ c.from_residual-in_err-device_entries.ensures.1 c.in_err-device_entries.ensures)

pub returns-in_err-devices : goal.returns-in_err-devices
unfolding board_of
returns-in_err-devices c =
    rw (
      c.in_ok-ram.ensures,
      c.in_ok-steps.ensures,
      c.in_ok-module_entries.ensures.array,
      c.in_ok-modules.ensures.modules,
      c.in_ok-forbidden.ensures,
      c.in_ok-device_entries.ensures,
    ) (exits (λ x. x) _ _ _ _ c.from_residual-in_err-devices.ensures.1 c.in_err-devices.ensures)

pub returns-in_err-show_entries : goal.returns-in_err-show_entries
unfolding board_of
returns-in_err-show_entries c =
    rw (
      c.in_ok-ram.ensures,
      c.in_ok-steps.ensures,
      c.in_ok-module_entries.ensures.array,
      c.in_ok-modules.ensures.modules,
      c.in_ok-forbidden.ensures,
      c.in_ok-device_entries.ensures,
      c.in_ok-devices.ensures,
    )
    (exits entries_view _ _ _ _ c.from_residual-in_err-show_entries.ensures.1 c.in_err-show_entries.ensures)

pub returns-in_err-shows : goal.returns-in_err-shows
unfolding board_of
returns-in_err-shows c =
    rw (
      c.in_ok-ram.ensures,
      c.in_ok-steps.ensures,
      c.in_ok-module_entries.ensures.array,
      c.in_ok-modules.ensures.modules,
      c.in_ok-forbidden.ensures,
      c.in_ok-device_entries.ensures,
      c.in_ok-devices.ensures,
      c.in_ok-show_entries.ensures,
      ← c.items.ensures,
    ) (exits (λ x. x) _ _ _ _ c.from_residual-in_err-shows.ensures.1 c.in_err-shows.ensures)

pub returns-in_err-nothing_else : goal.returns-in_err-nothing_else
unfolding board_of
returns-in_err-nothing_else c =
    rw (
      c.in_ok-ram.ensures,
      c.in_ok-steps.ensures,
      c.in_ok-module_entries.ensures.array,
      c.in_ok-modules.ensures.modules,
      c.in_ok-forbidden.ensures,
      c.in_ok-device_entries.ensures,
      c.in_ok-devices.ensures,
      c.in_ok-show_entries.ensures,
      ← c.items.ensures,
      c.in_ok-shows.ensures,
    )
    (exits (λ x. x) _ _ _ _ c.from_residual-in_err-nothing_else.ensures.1 c.in_err-nothing_else.ensures)

pub returns : goal.returns
unfolding board_of
returns c =
    rw (
      c.in_ok-ram.ensures,
      c.in_ok-steps.ensures,
      c.in_ok-module_entries.ensures.array,
      c.in_ok-modules.ensures.modules,
      c.in_ok-forbidden.ensures,
      c.in_ok-device_entries.ensures,
      c.in_ok-devices.ensures,
      c.in_ok-show_entries.ensures,
      ← c.items.ensures,
      c.in_ok-shows.ensures,
      c.in_ok-nothing_else.ensures,
      c.new-2.ensures,
      c.new.ensures.items,
    ) refl
