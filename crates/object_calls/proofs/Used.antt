-- What a reference names is Live, and what it names or reserves uses its slot.
use Rattle.std.proofs.Common.{◌≡◌, ◌==◌, ◌&&◌, ◌||◌, ℕ, true, false, Bool, List, Option, None, Some, ap, subst}
use Rattle.std.proofs.lemmas.Bool.{and_parts, cond_both, eqb-true}
use Rattle.tx_types.specs.Reference.{slot_of}
use Rattle.tx_types.specs.declared.kind.Kind.{Kind}
use Rattle.object_grants.specs.Slot.{is_empty_for, is_granted, is_in, is_kind, is_live_for, is_own_empty, owns, slot_state_number}
use Rattle.object_grants.specs.Table.{named as names_slot, named_slot, names, slot}
use Rattle.object_grants.specs.declared.slot.Slot.{Slot}
use Rattle.object_grants.specs.declared.slot.SlotState.TheVariants.{Empty, Free, Live}
use Rattle.kernel_state.specs.Contents.{is_of}
use Rattle.kernel_state.specs.Kernel.{module_of}
use Rattle.kernel_state.specs.Tests.{named, reserved}
use Rattle.kernel_state.specs.declared.kernel.Kernel.{Kernel}

-- what a reference names passes the test
passes : (slots : List Slot) (r : ℕ) (test : Slot → Bool) (o : ℕ) → named_slot slots r test ≡ Some o → test (slot slots o) ≡ true
passes slots r test o =
    cond_both (names_slot slots r test) (Some (slot_of r)) None (λ (x : Option ℕ). x ≡ Some o → test (slot slots o) ≡ true)
    (λ both same.
    let here : slot_of r ≡ o = cc in
    subst (λ n. test (slot slots n) ≡ true) here ((and_parts (names slots r) (test (slot slots (slot_of r))) both).1))
    (λ none same. cc)

pub named_is_live : (k : Kernel) (by r o : ℕ) (kind : Kind) → named k by r kind ≡ Some o → is_of k.objects kind o ≡ true
named_is_live k by r o kind is =
    let s = slot k.objects o in
    let m = module_of k by in
    (and_parts (is_in Live s && is_kind kind s) (owns m s || is_granted m s) (passes k.objects r (is_live_for m kind) o is)).0

pub named_is_used : (k : Kernel) (by r o : ℕ) (kind : Kind) → named k by r kind ≡ Some o → is_in Free (slot k.objects o) ≡ false
named_is_used k by r o kind is =
    let s = slot k.objects o in
    let live = (and_parts (is_in Live s) (is_kind kind s) (named_is_live k by r o kind is)).0 in
    ap (λ n. n == 0) (eqb-true (slot_state_number s.state) 2 live)

pub reserved_is_used : (k : Kernel) (by r o : ℕ) (kind : Kind) → reserved k by r kind ≡ Some o → is_in Free (slot k.objects o) ≡ false
reserved_is_used k by r o kind is =
    let s = slot k.objects o in
    let m = module_of k by in
    let own = (and_parts (is_own_empty m s) (is_kind kind s) (passes k.objects r (is_empty_for m kind) o is)).0 in
    let empty = (and_parts (is_in Empty s) (owns m s) own).0 in
    ap (λ n. n == 0) (eqb-true (slot_state_number s.state) 1 empty)
