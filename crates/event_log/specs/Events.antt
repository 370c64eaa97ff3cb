-- The events of a history, one by one, its interrupts, and the words of each device.
use Rattle.std.specs.Prelude.{ℕ, ◌==◌, if◌then◌else◌, List, [], ◌∷◌, replicate}
use Rattle.std.specs.List.{flat_map}
use Rattle.event_log.specs.declared.entry.Entry.{Entry}
use Rattle.event_log.specs.declared.entry.Entry.TheVariants as entry

-- one step of the board, or one interrupt of a device with a word
pub data Event : Type 0 where
  Step : Event
  Irq : (device word : ℕ) → Event

-- the events of an entry
abbrev pub events_in : Entry → List Event
events_in (entry.Steps n) = replicate n Step
events_in (entry.Irq d w) = Irq d w ∷ []

-- the events of a history, in order
abbrev pub events_of : List Entry → List Event
events_of es = flat_map events_in es

-- the word of an entry that is an interrupt of the device, and none of another
abbrev pub words_in : ℕ → Entry → List ℕ
words_in device (entry.Steps n) = []
words_in device (entry.Irq d w) = if d == device then w ∷ [] else []

-- the words of a device's interrupts, in order
abbrev pub words_of : ℕ → List Entry → List ℕ
words_of device es = flat_map (words_in device) es

-- the device and the word of an entry that is an interrupt
abbrev pub interrupts_in : Entry → List (ℕ × ℕ)
interrupts_in (entry.Steps n) = []
interrupts_in (entry.Irq d w) = (d, w) ∷ []

-- the interrupts of a history, in order
abbrev pub interrupts : List Entry → List (ℕ × ℕ)
interrupts es = flat_map interrupts_in es
