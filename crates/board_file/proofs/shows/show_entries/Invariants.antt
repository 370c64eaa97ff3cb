use Rattle.std.proofs.Common.{◌≡◌, [], drop, codes}
use Rattle.toml.specs.View.{items_view}
use Rattle.board_file.specs.Board.{show_of}
use Rattle.board_file.specs.Field.{entries}
use Rattle.board_file.proofs.shows.show_entries.Given as goal

abbrev pub invariant-loop-value : goal.invariant-loop-value
invariant-loop-value l =
    let all = entries (λ part earlier. show_of l.modules part) (codes "show") in
    all [] (items_view l.array.items) ≡ all l.shows.items (items_view (drop l.value-index l.array.items))
