-- A change of a slot leaves used slots with started modules.
use Rattle.std.proofs.Common.{◌≡◌, ◌≢◌, ◌⊎◌, ℕ, ◌-◌, ◌^◌, ◌==◌, true, false, List, [], length, Option, None, Some, bit_or, refl, sym, ap, ◌∙◌, subst, ⊎_elim}
use Rattle.std.proofs.Common.{inl, inr}
use Rattle.std.proofs.lemmas.Bool.{cases_lt, cond_both, eqb-true, false≢true}
use Rattle.std.proofs.lemmas.Bool.Decides.{eqb_tells}
use Rattle.std.proofs.lemmas.List.{get_or_past}
use Rattle.std.proofs.lemmas.Nat.Bits.{bit_at-zero}
use Rattle.std.proofs.lemmas.List.Elements.{All-get_or, All-set}
use Rattle.std.specs.Int.{bit_at}
use Rattle.tx_types.specs.declared.kind.Kind.{Kind}
use Rattle.module_manager.specs.declared.modules.Module.{Module}
use Rattle.object_grants.specs.Slot.{free_slot, is_granted, is_in, is_own_empty, slot_state_number, without_grant}
use Rattle.object_grants.specs.Table.{after_allocate, after_deallocate, after_free, after_grant, after_make_empty, after_make_live, after_revoke, allocated}
use Rattle.object_grants.specs.Table.{allocated_at, named, slot, with_slot}
use Rattle.object_grants.specs.declared.slot.Slot.{Slot}
use Rattle.object_grants.specs.declared.slot.SlotState.{SlotState}
use Rattle.object_grants.specs.declared.slot.SlotState.TheVariants.{Free, Empty}
use Rattle.board_core.specs.Owners.{AreOwned, IsOwned, IsStarted}
use Rattle.board_core.proofs.Grants.{one_more, others_stay}

-- a slot that is free, and one that was just allocated, has no grants
-- one number is another, or not
pub same_or_other : (j m : ℕ) → (j ≡ m) ⊎ (j ≢ m)
same_or_other j m = ⊎_elim (λ same. inl same.1) (λ other. inr other.1) (eqb_tells j m)

none_granted : (ms : List Module) (s : Slot) → s.grants ≡ 0 → (m : ℕ) → is_granted m s ≡ true → IsStarted ms m
none_granted ms s none m granted = absurd (false≢true (sym (ap (λ n. bit_at n m == 1) none ∙ ap (λ b. b == 1) (bit_at-zero m)) ∙ granted))

pub free_owned : (ms : List Module) (generation : ℕ) → IsOwned ms (free_slot generation)
free_owned ms generation = record { owner = λ used. cc; grants = none_granted ms (free_slot generation) refl }

-- each slot of the table, and those past its end, which are free
pub owned_at : (ms : List Module) (slots : List Slot) (o : ℕ) → AreOwned ms slots → IsOwned ms (slot slots o)
owned_at ms slots o all =
    ⊎_elim (λ below. All-get_or (IsOwned ms) slots o (free_slot 0) below all)
    (λ past. subst (IsOwned ms) (sym (get_or_past slots o (free_slot 0) past)) (free_owned ms 0)) (cases_lt o (length slots))

owned_with : (ms : List Module) (slots : List Slot) (o : ℕ) (s : Slot) → AreOwned ms slots → IsOwned ms s → AreOwned ms (with_slot slots o s)
owned_with ms slots o s all one = All-set (IsOwned ms) slots o s one all

-- a slot is allocated
allocated_owned_at : (ms : List Module) (slots : List Slot) (m : ℕ) (kind : Kind) (o : Option ℕ) → AreOwned ms slots → IsStarted ms m
    → AreOwned ms (allocated_at slots m kind o)
allocated_owned_at ms slots m kind None all started = all
allocated_owned_at ms slots m kind (Some o) all started =
    owned_with ms slots o (allocated m kind (slot slots o)) all
    (record { owner = λ used. started; grants = none_granted ms (allocated m kind (slot slots o)) refl })

pub allocated_owned : (ms : List Module) (slots : List Slot) (m : ℕ) (kind : Kind) → AreOwned ms slots → IsStarted ms m
    → AreOwned ms (after_allocate slots m kind)
allocated_owned ms slots m kind all started = allocated_owned_at ms slots m kind _ all started

-- a used slot gets an object, or loses it
pub live_owned : (ms : List Module) (slots : List Slot) (o : ℕ) (name : List ℕ) → AreOwned ms slots → is_in Free (slot slots o) ≡ false
    → AreOwned ms (after_make_live slots o name)
live_owned ms slots o name all used =
    let before = owned_at ms slots o all in
    owned_with ms slots o _ all (record { owner = λ _. before.owner used; grants = before.grants })

pub emptied_owned : (ms : List Module) (slots : List Slot) (o : ℕ) → AreOwned ms slots → is_in Free (slot slots o) ≡ false
    → AreOwned ms (after_make_empty slots o)
emptied_owned ms slots o all used =
    let now : Slot = record (slot slots o) { state = Empty; grants = 0; name = [] } in
    owned_with ms slots o now all (record { owner = λ _. (owned_at ms slots o all).owner used; grants = none_granted ms now refl })

-- a slot is freed
pub freed_owned : (ms : List Module) (slots : List Slot) (o : ℕ) → AreOwned ms slots → AreOwned ms (after_free slots o)
freed_owned ms slots o all = owned_with ms slots o _ all (free_owned ms (slot slots o).generation)

pub deallocated_owned : (ms : List Module) (slots : List Slot) (m r : ℕ) → AreOwned ms slots → AreOwned ms (after_deallocate slots m r)
deallocated_owned ms slots m r all = cond_both (named slots r (is_own_empty m)) _ slots (AreOwned ms) (λ _. freed_owned ms slots _ all) (λ _. all)

-- a started module is granted an object
pub granted_owned : (ms : List Module) (slots : List Slot) (m o : ℕ) → AreOwned ms slots → IsStarted ms m → AreOwned ms (after_grant slots m o)
granted_owned ms slots m o all started =
    let s = slot slots o in
    let before = owned_at ms slots o all in
    owned_with ms slots o _ all
    (record {
      owner = before.owner;
      grants = λ j granted.
          ⊎_elim (λ (same : j ≡ m). subst (IsStarted ms) (sym same) started)
          (λ other. before.grants j (ap (λ b. b == 1) (one_more s.grants m j (eqb-true (bit_at (bit_or s.grants (2 ^ m)) j) 1 granted) other)))
          (same_or_other j m);
    })

-- a grant ends
ended_grant : (m : ℕ) (s : Slot) (j : ℕ) → is_granted j (without_grant m s) ≡ true → is_granted j s ≡ true
ended_grant m s j =
    cond_both (is_granted m s) (record s { grants = s.grants - 2 ^ m }) s (λ (x : Slot). is_granted j x ≡ true → is_granted j s ≡ true)
    (λ has left.
    ⊎_elim (λ (same : j ≡ m). subst (λ i. is_granted i s ≡ true) (sym same) has)
    (λ other. ap (λ b. b == 1) (sym (others_stay s.grants m j (eqb-true (bit_at s.grants m) 1 has) other) ∙ eqb-true (bit_at (s.grants - 2 ^ m) j) 1 left))
    (same_or_other j m))
    (λ has_not left. left)

without_grant-owner : (m : ℕ) (s : Slot) → (without_grant m s).owner ≡ s.owner
without_grant-owner m s = cond_both (is_granted m s) _ s (λ (x : Slot). x.owner ≡ s.owner) (λ _. refl) (λ _. refl)

without_grant-state : (m : ℕ) (s : Slot) → (without_grant m s).state ≡ s.state
without_grant-state m s = cond_both (is_granted m s) _ s (λ (x : Slot). x.state ≡ s.state) (λ _. refl) (λ _. refl)

pub revoked_owned : (ms : List Module) (slots : List Slot) (m o : ℕ) → AreOwned ms slots → AreOwned ms (after_revoke slots m o)
revoked_owned ms slots m o all =
    let s = slot slots o in
    let before = owned_at ms slots o all in
    owned_with ms slots o (without_grant m s) all
    (record {
      owner = λ used.
          subst (IsStarted ms) (sym (without_grant-owner m s))
          (before.owner (ap (λ (x : SlotState). slot_state_number x == 0) (sym (without_grant-state m s)) ∙ used));
      grants = λ j left. before.grants j (ended_grant m s j left);
    })
