-- Files read whole, by the bytes that are held under each name.
use Rattle.std.specs.Prelude.{ℕ, nat_lt, if◌then◌else◌, List, length, Option, Some, None, Result}
use Rattle.std.specs.Prelude.{Ok, Err}
use Rattle.board_run.specs.Step.{◌>>=◌}
use Rattle.board_run.specs.declared.refusal.Refusal.{Refusal}
use Rattle.board_run.specs.declared.refusal.Refusal.TheVariants.{ImageTooLarge}
use Rattle.board_run.specs.declared.refusal.Stop.{Stop}
use Rattle.board_run.specs.declared.refusal.Stop.TheVariants.{ReadFault, Refused}

-- bytes of a board file, of an image and of a log, at most
abbrev pub most_board : ℕ
most_board = 65536

abbrev pub most_image : ℕ
most_image = 1048576

abbrev pub most_log : ℕ
most_log = 4194304

-- the bytes of a file; one that isn't held is a fault of reading
abbrev pub held_file : Option (List ℕ) → Result (List ℕ) Stop
held_file None = Err ReadFault
held_file (Some bytes) = Ok bytes

-- the given number of bytes at most, else they are refused
abbrev pub within : ℕ → Refusal → List ℕ → Result (List ℕ) Stop
within most refusal bytes = if nat_lt most (length bytes) then Err (Refused refusal) else Ok bytes

-- the file of a name, with the given number of bytes at most
abbrev pub file_at : ℕ → Refusal → List ℕ → (List ℕ → Option (List ℕ)) → Result (List ℕ) Stop
file_at most refusal name at = do
  bytes ← held_file (at name)
  within most refusal bytes

-- the image of a number, from the file of a name
abbrev pub image_at : ℕ → List ℕ → (List ℕ → Option (List ℕ)) → Result (List ℕ) Stop
image_at number name at = file_at most_image (ImageTooLarge number) name at
