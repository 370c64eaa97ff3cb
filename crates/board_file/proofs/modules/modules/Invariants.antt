use Rattle.std.proofs.Common.{◌≡◌, [], ◌≤◌, drop, codes, vec_len}
use Rattle.toml.specs.View.{items_view}
use Rattle.board_file.specs.Board.{module_of}
use Rattle.board_file.specs.Field.{entries}
use Rattle.board_file.proofs.modules.modules.Given as goal

abbrev pub invariant-loop-value : goal.invariant-loop-value
invariant-loop-value l =
    (vec_len l.modules ≡ l.value-index) × (vec_len l.array ≤ 16)
    × (entries module_of (codes "module") [] (items_view l.array.items)
    ≡ entries module_of (codes "module") l.modules.items (items_view (drop l.value-index l.array.items)))
