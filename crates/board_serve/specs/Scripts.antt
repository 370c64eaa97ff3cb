-- The scripts of a board's devices.
use Rattle.std.specs.Prelude.{ℕ, ◌≤◌, List, [], length, slice_index_or}
use Rattle.tx_types.specs.Limits.{interrupt_limit}
use Rattle.board_file.specs.declared.board.BoardDevice.{BoardDevice}
use Rattle.board_file.specs.declared.board.Action.TheVariants.{Resume}

-- the script of the device of a number, empty past the last
abbrev pub script_of : List BoardDevice → ℕ → List ℕ
script_of devices d =
    (slice_index_or devices d
    (record { name = []; action = Resume; target = []; script = [] })).script

-- no script has more words than a board may have
abbrev pub HasShortScripts : List BoardDevice → Type 0
HasShortScripts devices = (d : ℕ) → length (script_of devices d) ≤ interrupt_limit
