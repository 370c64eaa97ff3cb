use Rattle.std.proofs.Common.{◌≡◌, ◌≤◌, [], drop, codes}
use Rattle.toml.specs.View.{items_view}
use Rattle.board_file.specs.Board.{device_of, script_words}
use Rattle.board_file.specs.Field.{entries}
use Rattle.board_file.proofs.devices.device_entries.Given as goal

abbrev pub invariant-loop-value : goal.invariant-loop-value
invariant-loop-value l =
    (l.words ≡ script_words l.devices.items) × (l.words ≤ 65536)
    × (entries device_of (codes "device") [] (items_view l.array.items)
    ≡ entries device_of (codes "device") l.devices.items (items_view (drop l.value-index l.array.items)))
