-- The table of kernel object slots, what a reference names in it, and what each call leaves of it.
use Rattle.std.specs.Prelude.{ℕ, ◌≡◌, ◌+◌, ◌==◌, ◌&&◌, Bool, List, [], length, All, position}
use Rattle.std.specs.Prelude.{slice_set, Option, None, Some, bit_or, ◌^◌, if◌then◌else◌}
use Rattle.std.specs.List.{slice_index_or}
use Rattle.tx_types.specs.Limits.{slot_limit}
use Rattle.tx_types.specs.Reference.{reference, slot_of, generation_of}
use Rattle.tx_types.specs.declared.kind.Kind.{Kind}
use Rattle.object_grants.specs.Slot.{IsSlot, is_usable, is_own_empty, free_slot, without_grant}
use Rattle.object_grants.specs.declared.slot.Slot.{Slot}
use Rattle.object_grants.specs.declared.slot.SlotState.TheVariants.{Empty, Live}

-- what holds of every table
pub record IsTable (slots : List Slot) : Type 0 where
  pub size : length slots ≡ slot_limit
  pub each : All IsSlot slots

-- the slot of a number
abbrev pub slot : List Slot → ℕ → Slot
slot slots o = slice_index_or slots o (free_slot 0)

-- the reference to a slot
abbrev pub ref_of : List Slot → ℕ → ℕ
ref_of slots o = reference o (slot slots o).generation

-- a reference names a slot by its number and its present generation
abbrev pub names : List Slot → ℕ → Bool
names slots r = (slot slots (slot_of r)).generation == generation_of r

-- a reference names a slot that passes a test, and that slot
abbrev pub named : List Slot → ℕ → (Slot → Bool) → Bool
named slots r test = names slots r && test (slot slots (slot_of r))

abbrev pub named_slot : List Slot → ℕ → (Slot → Bool) → Option ℕ
named_slot slots r test = if named slots r test then Some (slot_of r) else None

-- slot o becomes s, and all others stay
abbrev pub with_slot : List Slot → ℕ → Slot → List Slot
with_slot slots o s = slice_set slots o s

-- the lowest usable slot is allocated, at the next generation
abbrev pub allocated : ℕ → Kind → Slot → Slot
allocated m k s =
    record s {
      state = Empty;
      generation = s.generation + 1;
      kind = Some k;
      owner = m;
      grants = 0;
      name = [];
    }

abbrev pub allocated_at : List Slot → ℕ → Kind → Option ℕ → List Slot
allocated_at slots m k None = slots
allocated_at slots m k (Some o) = with_slot slots o (allocated m k (slot slots o))

abbrev pub after_allocate : List Slot → ℕ → Kind → List Slot
after_allocate slots m k = allocated_at slots m k (position is_usable slots)

-- the object is created, with a name
abbrev pub after_make_live : List Slot → ℕ → List ℕ → List Slot
after_make_live slots o name =
    with_slot slots o (record (slot slots o) { state = Live; name = name })

-- the object is deleted: its grants and its name end
abbrev pub after_make_empty : List Slot → ℕ → List Slot
after_make_empty slots o =
    with_slot slots o (record (slot slots o) { state = Empty; grants = 0; name = [] })

-- the slot is Free; all but its generation ends
abbrev pub after_free : List Slot → ℕ → List Slot
after_free slots o = with_slot slots o (free_slot (slot slots o).generation)

-- an Empty slot of module m's own is freed by its reference
abbrev pub after_deallocate : List Slot → ℕ → ℕ → List Slot
after_deallocate slots m r =
    if named slots r (is_own_empty m) then after_free slots (slot_of r) else slots

-- module m is granted the object
abbrev pub after_grant : List Slot → ℕ → ℕ → List Slot
after_grant slots m o =
    with_slot slots o (record (slot slots o) { grants = bit_or (slot slots o).grants (2 ^ m) })

-- module m's grant of the object ends
abbrev pub after_revoke : List Slot → ℕ → ℕ → List Slot
after_revoke slots m o = with_slot slots o (without_grant m (slot slots o))
