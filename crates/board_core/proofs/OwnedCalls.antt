-- A call leaves used slots with started modules.
use Rattle.std.proofs.Common.{◌≡◌, ℕ, List, [], Option, None, Some, refl, sym, subst}
use Rattle.std.proofs.lemmas.Bool.{cond_both}
use Rattle.tx_types.specs.declared.state.State.{State}
use Rattle.tx_types.specs.declared.waits.End.TheVariants.{Gone}
use Rattle.module_manager.specs.declared.modules.Module.{Module}
use Rattle.object_grants.specs.Laws.{Call, Allocate, Deallocate, FreeSlot, MakeLive, MakeEmpty, Grant, Revoke, Restore, MayCall, called}
use Rattle.object_grants.specs.declared.slot.Slot.{Slot}
use Rattle.region_guard.specs.Memory.{Memory}
use Rattle.kernel_state.specs.Change.{Change, quiet}
use Rattle.kernel_state.specs.Kernel.{thread, module_of}
use Rattle.kernel_state.specs.Outcome.{Outcome, found, unless}
use Rattle.kernel_state.specs.Row.{IsCallFor, MayMake, slots_after}
use Rattle.kernel_state.specs.Serves.{Serves}
use Rattle.kernel_state.specs.Thread.{is_over, is_waiting}
use Rattle.kernel_state.specs.ThreadChanges.{ended, over_by}
use Rattle.kernel_state.specs.Waiting.{wait_ended}
use Rattle.kernel_state.specs.declared.kernel.Kernel.{Kernel}
use Rattle.thread_calls.specs.ThreadRows.{resumption, starting}
use Rattle.call_dispatch.specs.Ecall.{dispatched}
use Rattle.call_dispatch.specs.Laws.{CallChangesSlotsOnce}
use Rattle.board_core.specs.Owners.{AreOwned, IsStarted}
use Rattle.board_core.proofs.OwnedSlots.{allocated_owned, deallocated_owned, emptied_owned, granted_owned, live_owned}

abbrev pub Owned : List Module → Kernel → Type 0
Owned ms k = AreOwned ms k.objects

abbrev pub OwnedAfter : List Module → Outcome → Type 0
OwnedAfter ms o = Owned ms o.change.kernel

-- the parts of a row
unless_owned : (ms : List Module) (k : Kernel) (g : Memory) (r : Option ℕ) (change : Outcome) → Owned ms k → OwnedAfter ms change
    → OwnedAfter ms (unless k g r change)
unless_owned ms k g None change before after = after
unless_owned ms k g (Some c) change before after = before

pub found_owned : {A : Type 0} (ms : List Module) (k : Kernel) (g : Memory) (c : ℕ) (o : Option A) (change : A → Outcome) → Owned ms k
    → ((x : A) → o ≡ Some x → OwnedAfter ms (change x)) → OwnedAfter ms (found k g c o change)
found_owned ms k g c None change before after = before
found_owned ms k g c (Some x) change before after = after x refl

-- changes of threads alone
abbrev pub OwnedChange : List Module → Change → Type 0
OwnedChange ms c = Owned ms c.kernel

pub ended_owned : (ms : List Module) (k : Kernel) (g : Memory) (t : ℕ) (state : State) → Owned ms k → OwnedChange ms (ended k g t state)
ended_owned ms k g t state before =
    cond_both (is_waiting (thread k t).state) (wait_ended k g t Gone []) (quiet k g) (λ (c : Change). Owned ms (over_by c.kernel t state))
    (λ _. cond_both (is_over (thread k t).state) _ _ (Owned ms) (λ _. before) (λ _. before))
    (λ _. cond_both (is_over (thread k t).state) k _ (Owned ms) (λ _. before) (λ _. before))

pub resumption_owned : (ms : List Module) (k : Kernel) (g : Memory) (t : ℕ) → Owned ms k → OwnedAfter ms (resumption k g t)
unfolding resumption starting
resumption_owned ms k g t before = cond_both (thread k t).held _ _ (OwnedAfter ms) (λ _. before) (λ _. unless_owned ms k g _ _ before before)

-- a call of the table of slots, made for a started module
made_owned : (ms : List Module) (slots : List Slot) (m : ℕ) (c : Call) → IsCallFor m c → MayCall slots c → AreOwned ms slots → IsStarted ms m
    → AreOwned ms (called slots c)
made_owned ms slots m (Allocate n kind) is may all started = allocated_owned ms slots n kind all (subst (IsStarted ms) (sym is) started)
made_owned ms slots m (Deallocate n r) is may all started = deallocated_owned ms slots n r all
made_owned ms slots m (FreeSlot o) is may all started = absurd is
made_owned ms slots m (MakeLive o name) is may all started = live_owned ms slots o name all may
made_owned ms slots m (MakeEmpty o) is may all started = emptied_owned ms slots o all may
made_owned ms slots m (Grant n o) is may all started = granted_owned ms slots n o all (subst (IsStarted ms) (sym is) started)
made_owned ms slots m (Revoke n o) is may all started = absurd is
made_owned ms slots m (Restore o s) is may all started = absurd is

after_owned : (ms : List Module) (slots : List Slot) (m : ℕ) (c : Option Call) → MayMake m slots c → AreOwned ms slots → IsStarted ms m
    → AreOwned ms (slots_after slots c)
after_owned ms slots m None may all started = all
after_owned ms slots m (Some c) may all started = made_owned ms slots m c may.0 may.1 all started

pub dispatched_owned : CallChangesSlotsOnce → (ms : List Module) (k : Kernel) (g : Memory) (t : ℕ) → Serves k g → k.ready.run ≡ Some t → Owned ms k
    → IsStarted ms (module_of k t) → OwnedAfter ms (dispatched k g t)
dispatched_owned once ms k g t serves runs before started =
    let kept = once k g t serves runs in
    subst (AreOwned ms) (sym kept.slots) (after_owned ms k.objects (module_of k t) kept.call kept.may before started)
