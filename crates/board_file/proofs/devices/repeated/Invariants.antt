use Rattle.std.proofs.Common.{◌≡◌}
use Rattle.board_file.specs.Board.{repeated}
use Rattle.board_file.proofs.devices.repeated.Given as goal

abbrev pub invariant-loop-turn : goal.invariant-loop-turn
invariant-loop-turn l = l.all.items ≡ repeated l._turn l.words
