-- What a write appends to the bytes that a sink holds, where they are known, and a sink in memory.
use Rattle.std.specs.Prelude.{◌≡◌, ℕ, ◌==◌, Bool, if◌then◌else◌, List, [], ◌∷◌, ◌++◌, length, ◌<◌}
use Rattle.std.specs.Prelude.{Option, None, Some, Result, Ok, Err, take, ◌⊎◌}
use Rattle.std.specs.Io.KnownBytes.{Appends}
use Rattle.board_io.specs.Faults.{Rose, risen}

-- some prefix of the text was appended
abbrev pub AppendsPrefix : Option (List ℕ) → Option (List ℕ) → List ℕ → Type 0
AppendsPrefix old new text = (n : ℕ) × Appends old new (take n text)

-- the text was appended whole, or the count of faults rose and a prefix of it was appended
abbrev pub Wrote : {T E : Type 0} → (before now : ℕ) → (old new : Option (List ℕ))
    → (text : List ℕ) → Result T E → Type 0
Wrote before now old new text (Ok _) = Appends old new text
Wrote before now old new text (Err _) = Rose before now × AppendsPrefix old new text

-- a sink in memory: what was written, how many bytes it holds without taking memory, the numbers of
-- the writes that fail with how much each keeps, and the writes and faults so far
pub record SinkInMemory : Type 0 where
  pub written : List ℕ
  pub room : ℕ
  pub fails : List (ℕ × ℕ)
  pub writes : ℕ
  pub faults : ℕ

-- how many bytes of its piece a write of this number keeps, where it is to fail
abbrev pub kept_by : List (ℕ × ℕ) → ℕ → Option ℕ
kept_by [] number = None
kept_by (fail ∷ fails) number = if fail.0 == number then Some fail.1 else kept_by fails number

-- the same of the next write; writes are counted from 1
abbrev pub kept_next : SinkInMemory → Option ℕ
kept_next s = kept_by s.fails (risen s.writes)

-- nothing was appended, and the room didn't hold the piece: memory was to be taken, and there was
-- none
abbrev pub FindsNoMemory : (room : ℕ) → (old new piece : List ℕ) → Type 0
FindsNoMemory room old new piece = (new ≡ old) × room < length (old ++ piece)

-- a write appends its piece; one that is to fail appends the prefix of it that it keeps; either may
-- find no memory
abbrev pub AppendsKept : {T E : Type 0} → (kept : Option ℕ) → (room : ℕ)
    → (old new piece : List ℕ) → Result T E → Type 0
AppendsKept None room old new piece (Ok _) = new ≡ old ++ piece
AppendsKept None room old new piece (Err _) = FindsNoMemory room old new piece
AppendsKept (Some kept) room old new piece (Ok _) = ⊥
AppendsKept (Some kept) room old new piece (Err _) =
    (new ≡ old ++ take kept piece) ⊎ FindsNoMemory room old new (take kept piece)

-- the sink after a write: its bytes and its room are these, the write is counted, and so is its
-- fault
abbrev pub after_write : SinkInMemory → (written : List ℕ) → (room : ℕ) → (failed : Bool)
    → SinkInMemory
after_write s written room failed =
    record s {
      written = written;
      room = room;
      writes = risen s.writes;
      faults = if failed then risen s.faults else s.faults;
    }
