-- What devices have raised of their scripts.
use Rattle.std.specs.Prelude.{◌≡◌, ℕ, ◌<◌, ◌≤◌, List, [], length, take, Some, slice_get}
use Rattle.std.specs.Prelude.{slice_index_or}
use Rattle.atomic_table.specs.Seated.{TableId}
use Rattle.board_file.specs.declared.board.BoardDevice.{BoardDevice}
use Rattle.irq_inbox.specs.Seen.{DevSeen}
use Rattle.board_serve.specs.Scripts.{script_of}
use Rattle.board_serve.specs.declared.device.Device.{Device}
use Rattle.board_serve.specs.declared.device.Device.TheVariants.{Thread, Mine}

-- by the pass as it was, the first k words of the script were raised, and no others
abbrev pub HasRaised : DevSeen → List ℕ → DevSeen → ℕ → Type 0
HasRaised was script now k =
    (now.inbox ≡ was.inbox) × (now.number ≡ was.number)
    × (now.sent ≡ take k script) × (k ≤ length script)

-- the pass of a device of an inbox that has raised nothing
abbrev pub at_first : TableId → ℕ → DevSeen
at_first inbox number = record { inbox = inbox; number = number; sent = [] }

-- the device of this number raises its script into the inbox: its thread has promised it, or the
-- caller has raised the first k words
abbrev pub IsRunning : TableId → ℕ → List ℕ → Device → Type 0
IsRunning inbox number script (Thread h) =
    (h.promise.was.value.inbox ≡ inbox) × (h.promise.was.value.number ≡ number)
    × (h.promise.script.now ≡ script)
IsRunning inbox number script (Mine p k) = HasRaised (at_first inbox number) script p k

-- each device of the board raises its script
abbrev pub AreRunning : TableId → List BoardDevice → List Device → Type 0
AreRunning inbox devices working =
    (length working ≡ length devices)
    × ((d : ℕ) (any : Device) → d < length working →
    IsRunning inbox d (script_of devices d) (slice_index_or working d any))

-- each pass has sent a prefix of its device's script
abbrev pub HaveSentOf : List BoardDevice → List DevSeen → Type 0
HaveSentOf devices passes =
    (d : ℕ) (p : DevSeen) → slice_get passes d ≡ Some p →
    (k : ℕ) × (p.sent ≡ take k (script_of devices d))
