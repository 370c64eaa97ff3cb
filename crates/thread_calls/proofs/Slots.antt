-- What a service changes of the slots: nothing, or by one call of their table.
use Rattle.std.proofs.Common.{◌≡◌, ℕ, ◌==◌, ◌&&◌, ◌||◌, Bool, true, false, List, [], Option, None, Some, refl, ap, subst}
use Rattle.std.proofs.lemmas.Bool.{and_parts, cond_both, eqb-true}
use Rattle.tx_types.specs.Reference.{slot_of}
use Rattle.tx_types.specs.declared.kind.Kind.{Kind}
use Rattle.tx_types.specs.declared.kind.Kind.TheVariants.{Thread}
use Rattle.tx_types.specs.declared.state.State.{State}
use Rattle.tx_types.specs.declared.state.State.TheVariants.{Ready}
use Rattle.tx_types.specs.declared.waits.End.TheVariants.{Aborted, Gone}
use Rattle.object_grants.specs.Laws.{MakeLive, MakeEmpty}
use Rattle.object_grants.specs.Slot.{is_empty_for, is_granted, is_in, is_kind, is_live_for, is_own_empty, owns, slot_state_number}
use Rattle.object_grants.specs.Table.{after_make_live, named as names_slot, named_slot, names, slot}
use Rattle.object_grants.specs.declared.slot.Slot.{Slot}
use Rattle.object_grants.specs.declared.slot.SlotState.TheVariants.{Free, Empty, Live}
use Rattle.region_guard.specs.Memory.{Memory}
use Rattle.kernel_state.specs.Change.{Change, quiet}
use Rattle.kernel_state.specs.Kernel.{has_thread, is_thread, module_of, placed, removed_thread, thread}
use Rattle.kernel_state.specs.Row.{KeepsSlots}
use Rattle.kernel_state.specs.Tests.{named, reserved}
use Rattle.kernel_state.specs.Thread.{is_over, is_state, is_waiting}
use Rattle.kernel_state.specs.ThreadChanges.{ended, over_by, started, suspended}
use Rattle.kernel_state.specs.Waiting.{wait_ended}
use Rattle.kernel_state.specs.declared.kernel.Kernel.{Kernel}
use Rattle.thread_calls.specs.Create.{created, spec_of}
use Rattle.thread_calls.specs.declared.create.ThreadBlock.{ThreadBlock}

pub slots_stay : (k now : Kernel) (by : ℕ) → now.objects ≡ k.objects → KeepsSlots k by now
slots_stay k now by same = record { call = None; slots = same; may = tt }

-- what a reference names passes the test
passes : (slots : List Slot) (r : ℕ) (test : Slot → Bool) (o : ℕ) → named_slot slots r test ≡ Some o → test (slot slots o) ≡ true
passes slots r test o =
    cond_both (names_slot slots r test) (Some (slot_of r)) None (λ (x : Option ℕ). x ≡ Some o → test (slot slots o) ≡ true)
    (λ both same.
    let here : slot_of r ≡ o = cc in
    subst (λ i. test (slot slots i) ≡ true) here (and_parts (names slots r) (test (slot slots (slot_of r))) both).1)
    (λ none same. cc)

-- a thread that is named is one
pub named_live : (k : Kernel) (by r t : ℕ) → named k by r Thread ≡ Some t → is_thread k t ≡ true
named_live k by r t is =
    let s = slot k.objects t in
    let m = module_of k by in
    (and_parts (has_thread s) (owns m s || is_granted m s) (passes k.objects r (is_live_for m Thread) t is)).0

-- an object, and a slot that is reserved, use their slot
live_used : (slots : List Slot) (r m : ℕ) (kind : Kind) (o : ℕ) → named_slot slots r (is_live_for m kind) ≡ Some o → is_in Free (slot slots o) ≡ false
live_used slots r m kind o is =
    let s = slot slots o in
    let both = and_parts (is_in Live s && is_kind kind s) (owns m s || is_granted m s) (passes slots r (is_live_for m kind) o is) in
    let live = (and_parts (is_in Live s) (is_kind kind s) both.0).0 in
    ap (λ n. n == 0) (eqb-true (slot_state_number s.state) 2 live)

reserved_used : (slots : List Slot) (r m : ℕ) (kind : Kind) (o : ℕ) → named_slot slots r (is_empty_for m kind) ≡ Some o → is_in Free (slot slots o) ≡ false
reserved_used slots r m kind o is =
    let s = slot slots o in
    let own = (and_parts (is_own_empty m s) (is_kind kind s) (passes slots r (is_empty_for m kind) o is)).0 in
    let empty = (and_parts (is_in Empty s) (owns m s) own).0 in
    ap (λ n. n == 0) (eqb-true (slot_state_number s.state) 1 empty)

-- threads change their state alone
pub suspended_slots : (k : Kernel) (g : Memory) (by t : ℕ) → KeepsSlots k by (suspended k g t).kernel
suspended_slots k g by t =
    slots_stay k _ by
    (cond_both (is_state (thread k t).state Ready) _ _ (λ (j : Kernel). j.objects ≡ k.objects) (λ _. refl)
    (λ _. cond_both (is_waiting (thread k t).state) _ k (λ (j : Kernel). j.objects ≡ k.objects) (λ _. refl) (λ _. refl)))

pub ended_slots : (k : Kernel) (g : Memory) (by t : ℕ) (state : State) → KeepsSlots k by (ended k g t state).kernel
ended_slots k g by t state =
    slots_stay k _ by
    (cond_both (is_waiting (thread k t).state) (wait_ended k g t Gone []) (quiet k g) (λ (c : Change). (over_by c.kernel t state).objects ≡ k.objects)
    (λ _. cond_both (is_over (thread k t).state) _ _ (λ (j : Kernel). j.objects ≡ k.objects) (λ _. refl) (λ _. refl))
    (λ _. cond_both (is_over (thread k t).state) k _ (λ (j : Kernel). j.objects ≡ k.objects) (λ _. refl) (λ _. refl)))

pub aborted_slots : (k : Kernel) (g : Memory) (by t : ℕ) → KeepsSlots k by (wait_ended k g t Aborted []).kernel
aborted_slots k g by t =
    let c = wait_ended k g t Aborted [] in
    slots_stay k c.kernel by (cond_both _ _ _ (λ (j : Kernel). j.objects ≡ k.objects) (λ _. refl) (λ _. refl))

-- a thread's object is made in a reserved slot, and removed
created_objects : (k : Kernel) (g : Memory) (by o : ℕ) (name : List ℕ) (b : ThreadBlock)
    → (created k g by o name b).kernel.objects ≡ after_make_live k.objects o name
unfolding created
created_objects k g by o name b =
    let now = placed k o name (spec_of k by b) in
    cond_both (b.auto == 1) (started now g o) (quiet now g) (λ (c : Change). c.kernel.objects ≡ after_make_live k.objects o name) (λ _. refl) (λ _. refl)

pub created_slots : (k : Kernel) (g : Memory) (by r o : ℕ) (name : List ℕ) (b : ThreadBlock) → reserved k by r Thread ≡ Some o
    → KeepsSlots k by (created k g by o name b).kernel
created_slots k g by r o name b is = record {
  call = Some (MakeLive o name);
  slots = created_objects k g by o name b;
  may = (tt, reserved_used k.objects r (module_of k by) Thread o is);
}

pub removed_slots : (k : Kernel) (by r t : ℕ) → named k by r Thread ≡ Some t → KeepsSlots k by (removed_thread k t)
removed_slots k by r t is = record {
  call = Some (MakeEmpty t);
  slots = refl;
  may = (tt, live_used k.objects r (module_of k by) Thread t is);
}
