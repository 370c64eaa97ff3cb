-- What the bytes of a log say, read line by line: a history, or the number of the first bad line.
use Rattle.std.specs.Prelude.{ℕ, ◌+◌, ◌^◌, Bool, ◌&&◌, ◌||◌, ◌==◌, nat_le, nat_lt, if◌then◌else◌}
use Rattle.std.specs.Prelude.{List, [], ◌∷◌, ◌++◌, length, fold, Option, Some, None, ok_or}
use Rattle.std.specs.Prelude.{option_and_then, Result, Ok, Err}
use Rattle.std.specs.List.{list_all, slice_split, onto_first}
use Rattle.std.specs.Str.{bytes_eq}
use Rattle.std.specs.Str.Parse.{digits_value}
use Rattle.tx_types.specs.Limits.{step_limit, interrupt_limit}
use Rattle.event_log.specs.Log.{parted, step_count, irq_count}
use Rattle.event_log.specs.Text.{line_of}
use Rattle.event_log.specs.declared.entry.Entry.{Entry}
use Rattle.event_log.specs.declared.entry.Entry.TheVariants.{Steps, Irq}

-- the lines of a text, each with its newline; what stands after the last newline is a line too
abbrev pub lines_of : List ℕ → List (List ℕ)
lines_of [] = []
lines_of (b ∷ bs) = if b == 10 then (b ∷ []) ∷ lines_of bs else onto_first b (lines_of bs)

-- the parts of a line, between its spaces and its newline
abbrev pub parts_of : List ℕ → List (List ℕ)
parts_of line = slice_split (λ b. b == 32 || b == 10) line

-- the one entry that a line with such parts could be: steps have one number, an interrupt has two
abbrev pub guess : List (List ℕ) → Option Entry
guess (letter ∷ n ∷ rest ∷ []) = Some (Steps (digits_value 10 n))
guess (letter ∷ d ∷ w ∷ rest ∷ []) = Some (Irq (digits_value 10 d) (digits_value 16 w))
guess _ = None

-- the entry whose line it is
abbrev pub entry_in : List ℕ → Option Entry
entry_in line =
    option_and_then (λ e. if bytes_eq (line_of e) line then Some e else None)
    (guess (parts_of line))

-- at least one step, or a word of one of the given number of devices
abbrev pub is_entry : ℕ → Entry → Bool
is_entry devices (Steps n) = nat_le 1 n
is_entry devices (Irq d w) = nat_lt d devices && nat_lt w (2 ^ 32)

-- the entries are a history of a board with the given number of devices
abbrev pub is_history : ℕ → List Entry → Bool
is_history devices es =
    list_all (is_entry devices) es && parted es
    && nat_le (step_count es) step_limit && nat_le (irq_count es) interrupt_limit

-- the entries and one more after them, where that is a history
abbrev pub longer : ℕ → List Entry → Entry → Option (List Entry)
longer devices before e =
    let after = before ++ e ∷ [] in if is_history devices after then Some after else None

-- one line more: its entry goes last, and a line that can't go there is the first bad one, counted
-- from 1
abbrev pub with_line : ℕ → Result (List Entry) ℕ → List ℕ → Result (List Entry) ℕ
with_line devices (Err bad) line = Err bad
with_line devices (Ok before) line =
    ok_or (option_and_then (longer devices before) (entry_in line)) (length before + 1)

-- the history that a log says, or the number of its first bad line
unfoldable pub log_in : (devices : ℕ) → List ℕ → Result (List Entry) ℕ
log_in devices bytes = fold (with_line devices) (Ok []) (lines_of bytes)
