-- The count of faults of reading.
use Rattle.std.specs.Prelude.{ℕ, Result, Ok, Err}
use Rattle.board_io.specs.Faults.{risen}
use Rattle.board_io.specs.declared.files.ReadErr.{ReadErr}
use Rattle.board_io.specs.declared.files.ReadErr.TheVariants.{Failed, Missing, NoMemory}

-- the count after a read: one more after each fault, of which running out of memory is none
abbrev pub count_read : {T : Type 0} → ℕ → Result T ReadErr → ℕ
count_read before (Ok _) = before
count_read before (Err Failed) = risen before
count_read before (Err Missing) = risen before
count_read before (Err NoMemory) = before
