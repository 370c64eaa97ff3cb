-- The files before the index have another name.
use Rattle.std.proofs.Common.{◌≡◌, drop}
use Rattle.board_io.specs.Files.{held_by}
use Rattle.board_io.specs.Files.{named}
use Rattle.board_io.proofs.files.bytes_under.Given as goal

abbrev pub invariant-loop-held : goal.invariant-loop-held
invariant-loop-held l = held_by (named (drop l.held-index l.files)) l.name ≡ held_by (named l.files) l.name
