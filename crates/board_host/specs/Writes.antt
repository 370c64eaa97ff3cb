-- A piece that is written whole or in part, and the count of faults of writing.
use Rattle.std.specs.Prelude.{ℕ, List, Option, Result, Ok, Err}
use Rattle.std.specs.Io.KnownBytes.{Appends}
use Rattle.board_io.specs.Faults.{risen}
use Rattle.board_io.specs.Sink.{AppendsPrefix}

-- the piece was appended whole, or a prefix of it where the write failed
abbrev pub AppendsPiece : {T E : Type 0} → (old new : Option (List ℕ)) → (piece : List ℕ)
    → Result T E → Type 0
AppendsPiece old new piece (Ok _) = Appends old new piece
AppendsPiece old new piece (Err _) = AppendsPrefix old new piece

-- the count after a write: one more where it failed
abbrev pub count_written : {T E : Type 0} → ℕ → Result T E → ℕ
count_written before (Ok _) = before
count_written before (Err _) = risen before
