-- A thread that is made in the lowest usable slot.
use Rattle.std.proofs.Common.{◌≡◌, ◌≢◌, ℕ, suc, ◌+◌, ◌<◌, ◌≤◌, ◌==◌, ◌&&◌, Bool, true, false, cond, not, nat_lt, List, [], ◌∷◌, length, filter, Some, None}
use Rattle.std.proofs.Common.{position, slice_set, refl, sym, ap, ◌∙◌, subst, arith}
use Rattle.std.proofs.lemmas.Bool.{and_parts, cond-true, eqb-true, false≢true, lt-ltb}
use Rattle.std.proofs.lemmas.List.{get_or-set_same, get_or-set_other, set-set}
use Rattle.std.proofs.lemmas.List.Quantifiers.{position-Some}
use Rattle.std.proofs.lemmas.List.Sums.{length-filter, sum_by-set}
use Rattle.std.specs.List.{count_by, position_or_len, prefix_len}
use Rattle.std.proofs.lemmas.Option.{none-some, same_Some}
use Rattle.std.specs.Option.{option_map, unwrap_or}
use Rattle.tx_types.specs.Reference.{reference, slot_of}
use Rattle.tx_types.specs.declared.kind.Kind.TheVariants.{Thread as ThreadKind}
use Rattle.object_grants.specs.Slot.{free_slot, is_in, is_kind, is_usable, last_generation, slot_state_number}
use Rattle.object_grants.specs.Table.{slot, allocated, allocated_at, after_allocate, ref_of}
use Rattle.object_grants.specs.declared.slot.Slot.{Slot}
use Rattle.object_grants.specs.declared.slot.SlotState.TheVariants.{Free, Live}
use Rattle.region_guard.specs.Memory.{Memory}
use Rattle.kernel_state.specs.Kernel.{thread, has_thread, is_thread, placed}
use Rattle.kernel_state.specs.Sound.{IsSound}
use Rattle.kernel_state.specs.Thread.{blank_thread, new_thread}
use Rattle.kernel_state.specs.ThreadChanges.{started, with_fresh}
use Rattle.kernel_state.specs.declared.kernel.Kernel.{Kernel}
use Rattle.kernel_state.specs.declared.thread.ThreadSpec.{ThreadSpec}
use Rattle.module_manager.specs.Start.{in_new_slot, next_slot, usable_slots}

-- where some element passes a test there is a first one
first_passes : (p : Slot → Bool) (xs : List Slot) → 1 ≤ length (filter p xs) → position_or_len p xs < length xs
first_passes p [] some = omega arith
first_passes p (x ∷ xs) some =
    elim (p x) as (λ b. 1 ≤ length (cond b (x ∷ filter p xs) (filter p xs)) → cond (not b) (1 + prefix_len (λ y. not (p y)) xs) 0 < suc (length xs)) [
      | true ↦ λ _. omega arith
      | false ↦ λ rest. let later = first_passes p xs rest in omega arith
    ] some

pub next-usable : (k : Kernel) → 1 ≤ usable_slots k → position is_usable k.objects ≡ Some (next_slot k)
next-usable k some =
    let n = position_or_len is_usable k.objects in
    let at = cond-true (nat_lt n (length k.objects)) (Some n) None (lt-ltb n (length k.objects) (first_passes is_usable k.objects some)) in
    at ∙ ap Some (sym (ap (λ o. unwrap_or o 0) at))

-- the slot that is allocated is Free
pub next-free : (k : Kernel) → 1 ≤ usable_slots k → (next_slot k < length k.objects) × (is_usable (slot k.objects (next_slot k)) ≡ true)
next-free k some =
    let found = position-Some is_usable k.objects (next_slot k) (free_slot 0) (next-usable k some) in (found.0, found.1)

usable-no-thread : (s : Slot) → is_usable s ≡ true → has_thread s ≡ false
usable-no-thread s usable =
    let free = (and_parts (is_in Free s) (nat_lt s.generation last_generation) usable).0 in
    ap (λ n. (n == 2) && is_kind ThreadKind s) (eqb-true (slot_state_number s.state) 0 free)

pub next-no-thread : (k : Kernel) → 1 ≤ usable_slots k → is_thread k (next_slot k) ≡ false
next-no-thread k some = usable-no-thread (slot k.objects (next_slot k)) (next-free k some).1

-- the table of slots after it is allocated, and after the thread is made in it
abbrev reserved : Kernel → ℕ → Slot
reserved k m = allocated m ThreadKind (slot k.objects (next_slot k))

abbrev with_name : List ℕ → Slot → Slot
with_name name s = record s { state = Live; name = name }

pub allocate-is : (k : Kernel) (m : ℕ) → 1 ≤ usable_slots k → after_allocate k.objects m ThreadKind ≡ slice_set k.objects (next_slot k) (reserved k m)
allocate-is k m some = ap (allocated_at k.objects m ThreadKind) (next-usable k some)

pub allocated-slot : (k : Kernel) (m : ℕ) → 1 ≤ usable_slots k → slot (after_allocate k.objects m ThreadKind) (next_slot k) ≡ reserved k m
allocated-slot k m some =
    ap (λ slots. slot slots (next_slot k)) (allocate-is k m some)
    ∙ get_or-set_same k.objects (next_slot k) (reserved k m) (free_slot 0) (next-free k some).0

pub in_new_slot-objects : (k : Kernel) (name : List ℕ) (s : ThreadSpec) → 1 ≤ usable_slots k
    → (in_new_slot k name s).objects ≡ slice_set k.objects (next_slot k) (with_name name (reserved k s.module))
in_new_slot-objects k name s some =
    let o = next_slot k in
    ap (λ x. slice_set (after_allocate k.objects s.module ThreadKind) o (with_name name x)) (allocated-slot k s.module some)
    ∙ (ap (λ slots. slice_set slots o (with_name name (reserved k s.module))) (allocate-is k s.module some)
    ∙ set-set k.objects o (reserved k s.module) (with_name name (reserved k s.module)))

-- every other thread stays as it is
pub new-spares : (k : Kernel) (name : List ℕ) (s : ThreadSpec) → 1 ≤ usable_slots k → (u : ℕ) → is_thread k u ≡ true
    → (u ≢ next_slot k) × (is_thread (in_new_slot k name s) u ≡ true) × (thread (in_new_slot k name s) u ≡ thread k u)
new-spares k name s some u live =
    let o = next_slot k in
    let other : u ≢ o = λ same. false≢true (sym (next-no-thread k some) ∙ subst (λ n. is_thread k n ≡ true) same live) in (
      other,
      ap (λ slots. has_thread (slot slots u)) (in_new_slot-objects k name s some)
          ∙ (ap has_thread (get_or-set_other k.objects o u (with_name name (reserved k s.module)) (free_slot 0) other) ∙ live),
      get_or-set_other k.threads o u (new_thread s) blank_thread other,
    )

-- one slot less is usable
one_passes_less : (p : Slot → Bool) (xs : List Slot) (i : ℕ) (y : Slot) → i < length xs → p (slot xs i) ≡ true → p y ≡ false
    → length (filter p (slice_set xs i y)) + 1 ≡ length (filter p xs)
one_passes_less p xs i y inside had_it lost =
    let sums : count_by p (slice_set xs i y) + cond (p (slot xs i)) 1 0 ≡ count_by p xs + cond (p y) 1 0 =
    sum_by-set (λ (x : Slot). cond (p x) 1 0) xs i y (free_slot 0) inside in
    let had : ◌≡◌ {A = ℕ} (cond (p (slot xs i)) 1 0) 1 = ap (λ b. cond b 1 0) had_it in
    let has : ◌≡◌ {A = ℕ} (cond (p y) 1 0) 0 = ap (λ b. cond b 1 0) lost in
    omega (arith, length-filter p xs, length-filter p (slice_set xs i y))

pub new-one_less : (k : Kernel) (name : List ℕ) (s : ThreadSpec) → 1 ≤ usable_slots k → usable_slots (in_new_slot k name s) + 1 ≡ usable_slots k
new-one_less k name s some =
    let free = next-free k some in
    ap (λ slots. length (filter is_usable slots) + 1) (in_new_slot-objects k name s some)
    ∙ one_passes_less is_usable k.objects (next_slot k) (with_name name (reserved k s.module)) free.0 free.1 refl

-- what the table answers: it always has a slot to give, and the reference names it
pub never-none : (k : Kernel) (ref : ℕ → ℕ) → 1 ≤ usable_slots k → option_map ref (position is_usable k.objects) ≡ None → ⊥
never-none k ref some none = none-some (ref (next_slot k)) (sym none ∙ ap (option_map ref) (next-usable k some))

slot_of-reference : (o generation : ℕ) → o < 256 → slot_of (reference o generation) ≡ o
slot_of-reference o generation below = omega arith

pub slot_of-allocated : (k : Kernel) (table : List Slot) (r : ℕ) → IsSound k → 1 ≤ usable_slots k
    → option_map (ref_of table) (position is_usable k.objects) ≡ Some r → slot_of r ≡ next_slot k
slot_of-allocated k table r sound some answer =
    let o = next_slot k in
    let free = next-free k some in
    let named = same_Some (ref_of table o) r (sym (ap (option_map (ref_of table)) (next-usable k some)) ∙ answer) in
    ap slot_of (sym named) ∙ slot_of-reference o (slot table o).generation (omega (arith, free.0, sound.formed.slots))

-- the thread was placed in the slot that was allocated
pub placed-is : (k now : Kernel) (table : List Slot) (o : ℕ) (name : List ℕ) (s : ThreadSpec)
    → now ≡ placed (record k { objects = table }) o name s → table ≡ after_allocate k.objects s.module ThreadKind → o ≡ next_slot k → now ≡ in_new_slot k name s
placed-is k now table o name s after allocated here =
    after ∙ (ap (λ slots. placed (record k { objects = slots }) o name s) allocated
    ∙ ap (λ n. placed (record k { objects = after_allocate k.objects s.module ThreadKind }) n name s) here)

-- a start leaves every other thread as it is
pub started-other : (k : Kernel) (g : Memory) (t u : ℕ) → u ≢ t → thread (started k g t).kernel u ≡ thread k u
started-other k g t u other =
    get_or-set_other (with_fresh k t false).threads t u _ blank_thread other ∙ get_or-set_other k.threads t u _ blank_thread other
