-- A slot of the table of kernel objects: its state, whose it is, and who else may use it.
use Rattle.std.specs.Prelude.{ℕ, ◌-◌, ◌^◌, if◌then◌else◌, ◌==◌, ◌&&◌, ◌||◌, ◌≡◌, ◌<◌, ◌≤◌, Bool}
use Rattle.std.specs.Prelude.{false, not, nat_lt, List, [], None, is_some}
use Rattle.std.specs.Option.{option_map_or}
use Rattle.std.specs.Str.{bytes_eq}
use Rattle.machine_words.specs.Bits.{bits}
use Rattle.tx_types.specs.Kind.{kind_number}
use Rattle.tx_types.specs.declared.kind.Kind.{Kind}
use Rattle.object_grants.specs.declared.slot.Slot.{Slot}
use Rattle.object_grants.specs.declared.slot.SlotState.{SlotState}
use Rattle.object_grants.specs.declared.slot.SlotState.TheVariants.{Free, Empty, Live}

abbrev pub slot_state_number : SlotState → ℕ
slot_state_number Free = 0
slot_state_number Empty = 1
slot_state_number Live = 2

-- the slot is in a state
abbrev pub is_in : SlotState → Slot → Bool
is_in state s = slot_state_number s.state == slot_state_number state

-- it is allocated for a kind of object
abbrev pub is_kind : Kind → Slot → Bool
is_kind k s = option_map_or (λ own. kind_number own == kind_number k) s.kind false

-- the highest generation
abbrev pub last_generation : ℕ
last_generation = 0xFFFFFF

-- it can be allocated
abbrev pub is_usable : Slot → Bool
is_usable s = is_in Free s && nat_lt s.generation last_generation

-- module m owns it
abbrev pub owns : ℕ → Slot → Bool
owns m s = not (is_in Free s) && (s.owner == m)

-- module m was granted its object: bit m of `grants` is set
abbrev pub is_granted : ℕ → Slot → Bool
is_granted m s = bits s.grants m 1 == 1

-- module m's grant ends: its bit of `grants` is cleared
abbrev pub without_grant : ℕ → Slot → Slot
without_grant m s = if is_granted m s then record s { grants = s.grants - 2 ^ m } else s

-- an Empty slot that module m owns, and one of kind k
abbrev pub is_own_empty : ℕ → Slot → Bool
is_own_empty m s = is_in Empty s && owns m s

abbrev pub is_empty_for : ℕ → Kind → Slot → Bool
is_empty_for m k s = is_own_empty m s && is_kind k s

-- a Live object of kind k that module m owns or was granted
abbrev pub is_live_for : ℕ → Kind → Slot → Bool
is_live_for m k s = is_in Live s && is_kind k s && (owns m s || is_granted m s)

-- a Live object of this kind and name
abbrev pub has_name : Kind → List ℕ → Slot → Bool
has_name k name s = is_in Live s && is_kind k s && bytes_eq s.name name

-- a Free slot at a generation
abbrev pub free_slot : ℕ → Slot
free_slot generation =
    record { state = Free; generation = generation; kind = None; owner = 0; grants = 0; name = [] }

-- what holds of every slot
pub record IsSlot (s : Slot) : Type 0 where
  pub generation : s.generation ≤ last_generation
  pub kind : is_some s.kind ≡ not (is_in Free s)
  pub used : is_in Free s ≡ false → 0 < s.generation
