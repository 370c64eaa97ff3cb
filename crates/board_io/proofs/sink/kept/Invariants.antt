-- The writes before the index have another number.
use Rattle.std.proofs.Common.{◌≡◌, drop}
use Rattle.board_io.specs.Sink.{kept_by}
use Rattle.board_io.proofs.sink.kept.Given as goal

abbrev pub invariant-loop-write : goal.invariant-loop-write
invariant-loop-write l = kept_by (drop l.write-index l.fails) l.number ≡ kept_by l.fails l.number
