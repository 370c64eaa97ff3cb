-- The text of a history.
use Rattle.std.specs.Prelude.{◌≡◌, ℕ, ◌+◌, ◌<◌, ◌≤◌, List, [], ◌∷◌, ◌++◌, length, take, codes}
use Rattle.std.specs.Prelude.{decimal}
use Rattle.std.specs.List.{flat_map}
use Rattle.tx_types.specs.Line.{hex}
use Rattle.tx_types.specs.Limits.{device_limit}
use Rattle.event_log.specs.Log.{IsEntry, IsHistory}
use Rattle.event_log.specs.declared.entry.Entry.{Entry}
use Rattle.event_log.specs.declared.entry.Entry.TheVariants.{Steps, Irq}
use Rattle.event_log.specs.declared.reading.LogErr.{LogErr}
use Rattle.event_log.specs.declared.reading.LogErr.TheVariants.{NoMemory, BadLine}

-- the numbers of an entry, parted by one space
abbrev pub numbers_of : Entry → List ℕ
numbers_of (Steps n) = decimal n
numbers_of (Irq d w) = decimal d ++ codes " " ++ hex w

-- the line of an entry without its newline: its letter, a space, and its numbers
abbrev pub fields_of : Entry → List ℕ
fields_of (Steps n) = codes "S " ++ numbers_of (Steps n)
fields_of (Irq d w) = codes "I " ++ numbers_of (Irq d w)

-- the line of an entry
abbrev pub line_of : Entry → List ℕ
line_of e = fields_of e ++ codes "\n"

-- the lines of the entries, one after another
abbrev pub text_of : List Entry → List ℕ
text_of es = flat_map line_of es

-- the bytes are the text of a history
pub record IsLogText (devices : ℕ) (es : List Entry) (bytes : List ℕ) : Type 0 where
  pub history : IsHistory devices es
  pub text : bytes ≡ text_of es

-- a text doesn't begin with a line that may come next
abbrev pub Ends : ℕ → List Entry → List ℕ → Type 0
Ends devices es text =
    (e : Entry) (more : List ℕ) → IsHistory devices (es ++ e ∷ []) → text ≡ line_of e ++ more → ⊥

-- a text begins with the line of an entry that may come next, the given number of bytes
pub record GoesOn (devices : ℕ) (es : List Entry) (text : List ℕ) (e : Entry) (n : ℕ) : Type 0 where
  pub lawful : IsEntry devices e
  pub history : IsHistory device_limit (es ++ e ∷ [])
  pub some : 0 < n
  pub within : n ≤ length text
  pub line : take n text ≡ line_of e

-- the first bad line, from 1: the lines before it are the text of a history, and what follows isn't
-- empty and doesn't begin with a line that may come next
pub record IsBadLine (devices line : ℕ) (bytes : List ℕ) : Type 0 where
  pub before : List Entry
  pub history : IsHistory devices before
  pub number : line ≡ length before + 1
  pub rest : List ℕ
  pub text : bytes ≡ text_of before ++ rest
  pub follows : 0 < length rest
  pub bad : Ends devices before rest

-- an error that names a line names the first bad one
abbrev pub TellsBadLine : ℕ → List ℕ → LogErr → Type 0
TellsBadLine devices bytes NoMemory = Unit {0}
TellsBadLine devices bytes (BadLine line) = IsBadLine devices line bytes
