-- What holds of the table and of references over all calls.
use Rattle.std.specs.Prelude.{ℕ, ◌≡◌, ◌+◌, ◌≤◌, ◌<◌, true, false, List, [], ◌∷◌, None, Some, ⊤}
use Rattle.std.specs.Prelude.{if◌then◌else◌}
use Rattle.tx_types.specs.Reference.{slot_of, generation_of}
use Rattle.tx_types.specs.declared.kind.Kind.{Kind}
use Rattle.object_grants.specs.Slot.{IsSlot, is_in, is_empty_for, is_live_for}
use Rattle.object_grants.specs.Table.{IsTable, slot, named_slot, with_slot, after_allocate}
use Rattle.object_grants.specs.Table.{after_deallocate, after_free, after_make_live}
use Rattle.object_grants.specs.Table.{after_make_empty, after_grant, after_revoke}
use Rattle.object_grants.specs.declared.slot.Slot.{Slot}
use Rattle.object_grants.specs.declared.slot.SlotState.TheVariants.{Free}

-- the calls that change the table
pub data Call : Type 0 where
  Allocate : (m : ℕ) (k : Kind) → Call
  Deallocate : (m r : ℕ) → Call
  FreeSlot : (o : ℕ) → Call
  MakeLive : (o : ℕ) (name : List ℕ) → Call
  MakeEmpty : (o : ℕ) → Call
  Grant : (m o : ℕ) → Call
  Revoke : (m o : ℕ) → Call
  Restore : (o : ℕ) (s : Slot) → Call

abbrev pub called : List Slot → Call → List Slot
called t (Allocate m k) = after_allocate t m k
called t (Deallocate m r) = after_deallocate t m r
called t (FreeSlot o) = after_free t o
called t (MakeLive o name) = after_make_live t o name
called t (MakeEmpty o) = after_make_empty t o
called t (Grant m o) = after_grant t m o
called t (Revoke m o) = after_revoke t m o
called t (Restore o s) = with_slot t o s

-- when a call may be made
abbrev pub MayCall : List Slot → Call → Type 0
MayCall t (Allocate m k) = ⊤
MayCall t (Deallocate m r) = ⊤
MayCall t (FreeSlot o) = ⊤
MayCall t (MakeLive o name) = is_in Free (slot t o) ≡ false
MayCall t (MakeEmpty o) = is_in Free (slot t o) ≡ false
MayCall t (Grant m o) = ⊤
MayCall t (Revoke m o) = ⊤
MayCall t (Restore o s) = (is_in Free (slot t o) ≡ true) × ((slot t o).generation ≡ 0) × IsSlot s

-- a list of calls, each of which may be made in its turn
abbrev pub all_called : List Slot → List Call → List Slot
all_called t [] = t
all_called t (c ∷ cs) = all_called (called t c) cs

abbrev pub MayCallAll : List Slot → List Call → Type 0
MayCallAll t [] = ⊤
MayCallAll t (c ∷ cs) = MayCall t c × MayCallAll (called t c) cs

-- the lowest generation at which a reference can ever find an object in the slot
abbrev pub lowest_alive : Slot → ℕ
lowest_alive s = if is_in Free s then s.generation + 1 else s.generation

-- a reference that names no allocated slot any more
abbrev pub IsDead : List Slot → ℕ → Type 0
IsDead t r = generation_of r < lowest_alive (slot t (slot_of r))

-- each call keeps what holds of every table, and no slot's generation falls
abbrev pub CallsKeepTheTable : Type 0
CallsKeepTheTable = (t : List Slot) (c : Call) → IsTable t → MayCall t c → IsTable (called t c)

abbrev pub GenerationsNeverFall : Type 0
GenerationsNeverFall =
    (t : List Slot) (c : Call) (o : ℕ) → MayCall t c
    → (slot t o).generation ≤ (slot (called t c) o).generation

-- as a slot is freed, each reference to it at its generation or a lower one is dead
abbrev pub FreeEndsReferences : Type 0
FreeEndsReferences =
    (t : List Slot) (r : ℕ) → IsTable t → generation_of r ≤ (slot t (slot_of r)).generation
    → IsDead (after_free t (slot_of r)) r

-- a dead reference stays so, whatever is called, and nobody finds anything by it
abbrev pub DeadStaysDead : Type 0
DeadStaysDead =
    (t : List Slot) (r : ℕ) (c : Call) → MayCall t c → IsDead t r → IsDead (called t c) r

abbrev pub DeadFindsNothing : Type 0
DeadFindsNothing =
    (t : List Slot) (r m : ℕ) (k : Kind) → IsDead t r
    → (named_slot t r (is_live_for m k) ≡ None) × (named_slot t r (is_empty_for m k) ≡ None)

-- the whole law: once the object that a reference resolves to has its slot freed, no one resolves
-- it again
abbrev pub ReferenceDiesWithItsSlot : Type 0
ReferenceDiesWithItsSlot =
    (t : List Slot) (r m o : ℕ) (k : Kind) (cs : List Call) (n : ℕ) (l : Kind) → IsTable t
    → named_slot t r (is_live_for m k) ≡ Some o
    → MayCallAll (after_free t o) cs
    → named_slot (all_called (after_free t o) cs) r (is_live_for n l) ≡ None
