-- What a reading says of a text, and what makes readings exact.
use Rattle.std.specs.Prelude.{◌≡◌, ℕ, ◌≤◌, List, Result, Ok, Err}
use Rattle.tx_types.specs.Limits.{device_limit}
use Rattle.event_log.specs.Log.{Log, IsHistory}
use Rattle.event_log.specs.LogIn.{log_in}
use Rattle.event_log.specs.Text.{text_of, IsLogText, IsBadLine}
use Rattle.event_log.specs.declared.entry.Entry.{Entry}
use Rattle.event_log.specs.declared.reading.LogErr.{LogErr}
use Rattle.event_log.specs.declared.reading.LogErr.TheVariants.{NoMemory, BadLine}

-- the text of a history is read as that history, where there is memory
abbrev pub IsReadAs : List Entry → Result Log LogErr → Type 0
IsReadAs es (Ok h) = h.entries ≡ es
IsReadAs es (Err NoMemory) = Unit {0}
IsReadAs es (Err (BadLine line)) = ⊥

-- a text is refused at its first bad line, where there is memory
abbrev pub IsRefusedAt : ℕ → Result Log LogErr → Type 0
IsRefusedAt line (Ok h) = ⊥
IsRefusedAt line (Err NoMemory) = Unit {0}
IsRefusedAt line (Err (BadLine other)) = other ≡ line

-- what was due is answered; that memory ran out may come at any time
abbrev pub Answers : Result (List Entry) ℕ → Result Log LogErr → Type 0
Answers due (Ok h) = due ≡ Ok h.entries
Answers due (Err NoMemory) = Unit {0}
Answers due (Err (BadLine line)) = due ≡ Err line

-- no two histories have the same text
abbrev pub TextsApart : ℕ → Type 0
TextsApart devices =
    devices ≤ device_limit → (es fs : List Entry) → IsHistory devices es → IsHistory devices fs
    → text_of es ≡ text_of fs → es ≡ fs

-- the text of a history has no bad line
abbrev pub NoBadLine : ℕ → Type 0
NoBadLine devices =
    devices ≤ device_limit → (es : List Entry) (line : ℕ) (bytes : List ℕ)
    → IsLogText devices es bytes
    → IsBadLine devices line bytes → ⊥

-- a text has one first bad line at most
abbrev pub OneBadLine : ℕ → Type 0
OneBadLine devices =
    devices ≤ device_limit → (line other : ℕ) (bytes : List ℕ) → IsBadLine devices line bytes
    → IsBadLine devices other bytes → line ≡ other

-- the text of a history says that history
abbrev pub ReadsBack : ℕ → Type 0
ReadsBack devices =
    devices ≤ device_limit → (es : List Entry) → IsHistory devices es
    → log_in devices (text_of es) ≡ Ok es

-- bytes are the text of a history, or have that first bad line
abbrev pub Holds : ℕ → List ℕ → Result (List Entry) ℕ → Type 0
Holds devices bytes (Ok es) = IsLogText devices es bytes
Holds devices bytes (Err line) = IsBadLine devices line bytes

-- what bytes say is so
abbrev pub SaysTrue : ℕ → Type 0
SaysTrue devices =
    devices ≤ device_limit → (bytes : List ℕ) → Holds devices bytes (log_in devices bytes)
