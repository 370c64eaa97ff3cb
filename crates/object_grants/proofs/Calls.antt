-- Every call keeps the table's rules, and no slot goes back to a generation whose references are dead.
use Rattle.std.proofs.Common.{◌≡◌, ℕ, ◌+◌, ◌-◌, ◌^◌, ◌≤◌, ◌<◌, Bool, true, false, not, nat_lt, List, [], ◌∷◌, Option, None, Some, position, refl, ap, subst}
use Rattle.std.proofs.Common.{◌∙◌, arith}
use Rattle.std.proofs.lemmas.Bool.{and_parts, cond-true, cond-false, cond_both, eqb-true, ltb-true}
use Rattle.std.proofs.lemmas.List.Quantifiers.{position-Some}
use Rattle.std.proofs.lemmas.Option.{cond_some}
use Rattle.tx_types.specs.Reference.{slot_of, generation_of}
use Rattle.tx_types.specs.declared.kind.Kind.{Kind}
use Rattle.object_grants.specs.Laws.{Call, Allocate, Deallocate, FreeSlot, MakeLive, MakeEmpty, Grant, Revoke, Restore, called, MayCall, all_called, MayCallAll}
use Rattle.object_grants.specs.Laws.{lowest_alive, IsDead, CallsKeepTheTable, FreeEndsReferences, DeadStaysDead, DeadFindsNothing, ReferenceDiesWithItsSlot}
use Rattle.object_grants.specs.Slot.{IsSlot, is_in, is_usable, is_granted, is_own_empty, is_live_for, last_generation, free_slot}
use Rattle.object_grants.specs.Table.{IsTable, slot, names, named, named_slot, with_slot, allocated, allocated_at, after_free}
use Rattle.object_grants.specs.declared.slot.Slot.{Slot}
use Rattle.object_grants.specs.declared.slot.SlotState.TheVariants.{Free}
use Rattle.object_grants.proofs.Table.{each_moves, is_slot, IsTable-with_slot}

-- the slot that is allocated is Free, below the last generation
first_usable : (t : List Slot) (o : ℕ) → position is_usable t ≡ Some o → (is_in Free (slot t o) ≡ true) × ((slot t o).generation < last_generation)
first_usable t o first =
    let passes = position-Some is_usable t o (free_slot 0) first in
    let parts = and_parts (is_in Free (slot t o)) (nat_lt (slot t o).generation last_generation) passes.1 in
    (parts.0, ltb-true (slot t o).generation last_generation parts.1)

allocate_keeps : (t : List Slot) (m : ℕ) (k : Kind) (o : Option ℕ) → position is_usable t ≡ o → IsTable t → IsTable (allocated_at t m k o)
allocate_keeps t m k None first table = table
allocate_keeps t m k (Some o) first table =
    let usable = first_usable t o first in
    let below = usable.1 in
    IsTable-with_slot t o (allocated m k (slot t o)) table (record { generation = omega arith; kind = refl; used = λ _. omega arith })

free_keeps : (t : List Slot) (o : ℕ) → IsTable t → IsTable (after_free t o)
free_keeps t o table =
    IsTable-with_slot t o (free_slot (slot t o).generation) table
    (record { generation = (is_slot t o table).generation; kind = refl; used = λ impossible. absurd (cc) })

pub calls_keep_the_table : CallsKeepTheTable
calls_keep_the_table t (Allocate m k) table may = allocate_keeps t m k (position is_usable t) refl table
calls_keep_the_table t (Deallocate m r) table may =
    cond_both (named t r (is_own_empty m)) (after_free t (slot_of r)) t IsTable (λ _. free_keeps t (slot_of r) table) (λ _. table)
calls_keep_the_table t (FreeSlot o) table may = free_keeps t o table
calls_keep_the_table t (MakeLive o name) table may =
    let s = is_slot t o table in
    IsTable-with_slot t o _ table (record { generation = s.generation; kind = s.kind ∙ ap not may; used = λ _. s.used may })
calls_keep_the_table t (MakeEmpty o) table may =
    let s = is_slot t o table in
    IsTable-with_slot t o _ table (record { generation = s.generation; kind = s.kind ∙ ap not may; used = λ _. s.used may })
calls_keep_the_table t (Grant m o) table may =
    let s = is_slot t o table in
    IsTable-with_slot t o _ table (record { generation = s.generation; kind = s.kind; used = s.used })
calls_keep_the_table t (Revoke m o) table may =
    let s = is_slot t o table in
    let granted : IsSlot (record (slot t o) { grants = (slot t o).grants - 2 ^ m }) = record { generation = s.generation; kind = s.kind; used = s.used } in
    IsTable-with_slot t o _ table (cond_both (is_granted m (slot t o)) _ (slot t o) IsSlot (λ _. granted) (λ _. s))
calls_keep_the_table t (Restore o s) table may = IsTable-with_slot t o s table may.2

-- the lowest generation alive doesn't fall from slot q to slot s
abbrev NotLower : Slot → Slot → Type 0
NotLower q s = lowest_alive q ≤ lowest_alive s

not_lower : (s : Slot) → NotLower s s
not_lower s = omega arith

one_moves : (t : List Slot) (o : ℕ) (s : Slot) → NotLower (slot t o) s → (p : ℕ) → NotLower (slot t p) (slot (with_slot t o s) p)
one_moves t o s here p = each_moves NotLower not_lower t o s here p

-- the lowest generation alive in a slot that isn't Free, and in a Free one
alive_in_use : (s : Slot) → is_in Free s ≡ false → lowest_alive s ≡ s.generation
alive_in_use s used = cond-false (is_in Free s) (s.generation + 1) s.generation used

alive_free : (s : Slot) → is_in Free s ≡ true → lowest_alive s ≡ s.generation + 1
alive_free s free = cond-true (is_in Free s) (s.generation + 1) s.generation free

alive_at_most : (s : Slot) → lowest_alive s ≤ s.generation + 1
alive_at_most s = cond_both (is_in Free s) (s.generation + 1) s.generation (λ n. n ≤ s.generation + 1) (λ _. omega arith) (λ _. omega arith)

alive_above_zero : (s : Slot) → IsSlot s → 1 ≤ lowest_alive s
alive_above_zero s good =
    cond_both (is_in Free s) (s.generation + 1) s.generation (λ n. 1 ≤ n) (λ _. omega arith) (λ used. let above = good.used used in omega arith)

allocate_moves : (t : List Slot) (m : ℕ) (k : Kind) (o : Option ℕ) → position is_usable t ≡ o → (p : ℕ) → NotLower (slot t p) (slot (allocated_at t m k o) p)
allocate_moves t m k None first p = not_lower (slot t p)
allocate_moves t m k (Some o) first p = one_moves t o (allocated m k (slot t o)) (alive_at_most (slot t o)) p

free_moves : (t : List Slot) (o p : ℕ) → NotLower (slot t p) (slot (after_free t o) p)
free_moves t o p = one_moves t o (free_slot (slot t o).generation) (alive_at_most (slot t o)) p

call_moves : (t : List Slot) (c : Call) → MayCall t c → (p : ℕ) → NotLower (slot t p) (slot (called t c) p)
call_moves t (Allocate m k) may p = allocate_moves t m k (position is_usable t) refl p
call_moves t (Deallocate m r) may p =
    cond_both (named t r (is_own_empty m)) (after_free t (slot_of r)) t (λ (u : List Slot). NotLower (slot t p) (slot u p)) (λ _. free_moves t (slot_of r) p)
    (λ _. not_lower (slot t p))
call_moves t (FreeSlot o) may p = free_moves t o p
call_moves t (MakeLive o name) may p =
    let alive = alive_in_use (slot t o) may in one_moves t o _ (omega arith) p
call_moves t (MakeEmpty o) may p =
    let alive = alive_in_use (slot t o) may in one_moves t o _ (omega arith) p
call_moves t (Grant m o) may p = one_moves t o _ (not_lower (slot t o)) p
call_moves t (Revoke m o) may p =
    let s = slot t o in
    one_moves t o _ (cond_both (is_granted m s) (record s { grants = s.grants - 2 ^ m }) s (NotLower s) (λ _. not_lower s) (λ _. not_lower s)) p
call_moves t (Restore o s) may p =
    let alive = alive_at_most (slot t o) in
    let never = may.1 in
    let after = alive_above_zero s may.2 in
    one_moves t o s (omega arith) p

pub dead_stays_dead : DeadStaysDead
dead_stays_dead t r c may dead =
    let moves = call_moves t c may (slot_of r) in omega arith

dead_after_all : (t : List Slot) (r : ℕ) (cs : List Call) → MayCallAll t cs → IsDead t r → IsDead (all_called t cs) r
dead_after_all t r [] may dead = dead
dead_after_all t r (c ∷ cs) may dead = dead_after_all (called t c) r cs may.1 (dead_stays_dead t r c may.0 dead)

-- a reference that finds a slot has its number and generation
found : (t : List Slot) (r o : ℕ) (test : Slot → Bool) → named_slot t r test ≡ Some o → ((slot t (slot_of r)).generation ≡ generation_of r) × (slot_of r ≡ o)
found t r o test is =
    let some = cond_some (named t r test) (slot_of r) o is in
    let parts = and_parts (names t r) (test (slot t (slot_of r))) some.0 in
    (eqb-true (slot t (slot_of r)).generation (generation_of r) parts.0, some.1)

pub dies_with_its_slot : FreeEndsReferences → DeadFindsNothing → ReferenceDiesWithItsSlot
dies_with_its_slot free_ends finds_nothing t r m o k cs n l table is may =
    let at = found t r o (is_live_for m k) is in
    let same = at.0 in
    let dead = subst (λ (p : ℕ). IsDead (after_free t p) r) at.1 (free_ends t r table (omega arith)) in
    (finds_nothing (all_called (after_free t o) cs) r n l (dead_after_all (after_free t o) r cs may dead)).0
