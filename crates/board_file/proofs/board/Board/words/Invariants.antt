use Rattle.std.proofs.Common.{◌≡◌, take}
use Rattle.board_file.specs.Board.{script_words}
use Rattle.board_file.proofs.board.Board.words.Given as goal

abbrev pub invariant-loop-device : goal.invariant-loop-device
invariant-loop-device l = l.words ≡ script_words (take l.device-index l.self.devices)
