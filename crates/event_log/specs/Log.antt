-- A history: the steps and interrupts of a run, in order.
use Rattle.std.specs.Prelude.{◌≡◌, ℕ, zero, suc, ◌+◌, ◌^◌, ◌<◌, ◌≤◌, ◌||◌, ◌&&◌, Bool, true, false}
use Rattle.std.specs.Prelude.{if◌then◌else◌, List, [], ◌∷◌, ◌++◌, All, count_by}
use Rattle.std.specs.List.{sum_by}
use Rattle.tx_types.specs.Limits.{device_limit, step_limit, interrupt_limit}
use Rattle.event_log.specs.declared.entry.Entry.{Entry}
use Rattle.event_log.specs.declared.entry.Entry.TheVariants.{Steps, Irq}

-- the entries, and the number of interrupts for which there is room
pub record Log : Type 0 where
  pub entries : List Entry
  pub irqs : ℕ

-- how many steps an entry is
abbrev pub steps_in : Entry → ℕ
steps_in (Steps n) = n
steps_in (Irq d w) = 0

-- the entry is an interrupt
abbrev pub is_irq : Entry → Bool
is_irq (Steps n) = false
is_irq (Irq d w) = true

-- how many steps all entries are
abbrev pub step_count : List Entry → ℕ
step_count es = sum_by steps_in es

-- how many entries are interrupts
abbrev pub irq_count : List Entry → ℕ
irq_count es = count_by is_irq es

-- no two entries of steps stand side by side
abbrev pub parted : List Entry → Bool
parted [] = true
parted (e ∷ []) = true
parted (e ∷ f ∷ es) = (is_irq e || is_irq f) && parted (f ∷ es)

-- at least one step, or a word of one of the given number of devices
abbrev pub IsEntry : ℕ → Entry → Type 0
IsEntry devices (Steps n) = 1 ≤ n
IsEntry devices (Irq d w) = (d < devices) × (w < 2 ^ 32)

-- a history of a board with the given number of devices
pub record IsHistory (devices : ℕ) (es : List Entry) : Type 0 where
  pub entries : All (IsEntry devices) es
  pub apart : parted es ≡ true
  pub steps : step_count es ≤ step_limit
  pub irqs : irq_count es ≤ interrupt_limit

-- a history that has room for its interrupts
pub record IsSound (h : Log) : Type 0 where
  pub history : IsHistory device_limit h.entries
  pub room : irq_count h.entries ≤ h.irqs
  pub at_most : h.irqs ≤ interrupt_limit

-- an entry with one step more after it
abbrev pub stepped : Entry → List Entry
stepped (Steps n) = Steps (n + 1) ∷ []
stepped (Irq d w) = Irq d w ∷ Steps 1 ∷ []

-- one step more: the last entry of steps is raised by one, or such an entry is opened
abbrev pub with_step : List Entry → List Entry
with_step [] = Steps 1 ∷ []
with_step (e ∷ []) = stepped e
with_step (e ∷ f ∷ es) = e ∷ with_step (f ∷ es)

-- the given number of steps more, one by one
abbrev pub with_steps : ℕ → List Entry → List Entry
with_steps zero es = es
with_steps (suc n) es = with_steps n (with_step es)

-- an interrupt goes last
abbrev pub with_irq : ℕ → ℕ → List Entry → List Entry
with_irq d w es = es ++ Irq d w ∷ []

-- how many steps the last entry is
abbrev pub last_steps : List Entry → ℕ
last_steps [] = 0
last_steps (e ∷ []) = steps_in e
last_steps (e ∷ f ∷ es) = last_steps (f ∷ es)

-- the entries that no step changes any more: all but a last one of steps
abbrev pub closed : List Entry → List Entry
closed [] = []
closed (e ∷ []) = if is_irq e then e ∷ [] else []
closed (e ∷ f ∷ es) = e ∷ closed (f ∷ es)

-- the last entry, if it is of steps
abbrev pub unclosed : List Entry → List Entry
unclosed [] = []
unclosed (e ∷ []) = if is_irq e then [] else e ∷ []
unclosed (e ∷ f ∷ es) = unclosed (f ∷ es)
