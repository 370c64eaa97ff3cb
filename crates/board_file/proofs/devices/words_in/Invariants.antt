use Rattle.std.proofs.Common.{◌≡◌, drop}
use Rattle.toml.specs.View.{items_view}
use Rattle.board_file.specs.Field.{words_in}
use Rattle.board_file.proofs.Words.{with_front}
use Rattle.board_file.proofs.devices.words_in.Given as goal

abbrev pub invariant-loop-value : goal.invariant-loop-value
invariant-loop-value l =
    words_in (items_view l.array.items) ≡ with_front l.words.items (words_in (items_view (drop l.value-index l.array.items)))
