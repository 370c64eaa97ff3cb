-- What was got from the lane: its lines, and how many interrupts of each device it has.
use Rattle.std.specs.Prelude.{◌≡◌, ℕ, ◌-◌, ◌^◌, ◌<◌, ◌≤◌, min, List, length, Option, Result}
use Rattle.std.specs.Prelude.{slice_index}
use Rattle.std.specs.Io.KnownBytes.{Appends}
use Rattle.board_file.specs.declared.board.BoardDevice.{BoardDevice}
use Rattle.board_io.specs.Sink.{Wrote}
use Rattle.event_log.specs.Events.{words_of}
use Rattle.event_log.specs.Text.{text_of}
use Rattle.event_log.specs.declared.entry.Entry.{Entry}
use Rattle.board_serve.specs.Scripts.{script_of}

-- each count is the number of interrupts of its device, and stands still at its type's end
abbrev pub Counted : List ℕ → List Entry → Type 0
Counted counts got =
    (d : ℕ) → d < length counts → slice_index counts d ≡ min (length (words_of d got)) (2 ^ 32 - 1)

-- of each device there are as many interrupts as its script has words
abbrev pub HasAll : List BoardDevice → List Entry → Type 0
HasAll devices got =
    (d : ℕ) → d < length devices → length (words_of d got) ≡ length (script_of devices d)

-- wherever the lines of what was got before were written, the lines of what is got now are written
-- after, or a prefix of them with a new fault
abbrev pub WritesOn : {T E : Type 0} → (before now : ℕ) → (old new : Option (List ℕ))
    → (was got : List Entry) → Result T E → Type 0
WritesOn before now old new was got result =
    (first : ℕ) (start : Option (List ℕ)) → first ≤ before → Appends start old (text_of was)
    → Wrote first now start new (text_of got) result
