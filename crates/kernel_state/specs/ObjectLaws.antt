-- What the end of all waits for an object, its removal, and the order of who waits for it leave of
-- a kernel.
use Rattle.std.specs.Prelude.{◌≡◌, ◌≢◌, ℕ, ◌<◌, true, false, List, [], All, None, Some}
use Rattle.tx_types.specs.Limits.{slot_limit}
use Rattle.tx_types.specs.End.{WaitEnd}
use Rattle.tx_types.specs.declared.waits.End.{End}
use Rattle.tx_types.specs.declared.waits.End.TheVariants.{Deleted, Gone}
use Rattle.object_grants.specs.Slot.{is_in}
use Rattle.object_grants.specs.Table.{slot}
use Rattle.object_grants.specs.declared.slot.SlotState.TheVariants.{Free, Live}
use Rattle.region_guard.specs.Memory.{Memory}
use Rattle.suspend_lists.specs.ThreadList.{has}
use Rattle.suspend_lists.specs.Waits.{number_of, wait_of}
use Rattle.kernel_state.specs.Change.{Change, quiet}
use Rattle.kernel_state.specs.Kernel.{is_thread, module_of, slot_emptied, thread}
use Rattle.kernel_state.specs.Objects.{all_ended, prioritized, removed, waiters_of}
use Rattle.kernel_state.specs.Objects.{without_contents}
use Rattle.kernel_state.specs.Outcome.{done}
use Rattle.kernel_state.specs.Range.{Range}
use Rattle.kernel_state.specs.Room.{RaisesCounts}
use Rattle.kernel_state.specs.Row.{IsKept}
use Rattle.kernel_state.specs.Serves.{Serves}
use Rattle.kernel_state.specs.Sound.{IsSound}
use Rattle.kernel_state.specs.Thread.{is_over}
use Rattle.kernel_state.specs.ThreadLaws.{Leaves}
use Rattle.kernel_state.specs.WaitCalls.{CallsWaits, OnlyEnds}
use Rattle.kernel_state.specs.Waiting.{result_of}
use Rattle.kernel_state.specs.declared.kernel.Kernel.{Kernel}

-- a thread's wait ends so without a result: who receives has one where it ends as Satisfied
abbrev pub HasNoResult : Kernel → End → ℕ → Type 0
HasNoResult k e t = result_of (wait_of k.waits t) e ≡ None

-- the waits of all who wait for an object end, and nobody waits for it any more
abbrev pub AllEndedKeepsServing : Type 0
AllEndedKeepsServing =
    (k : Kernel) (g : Memory) (o : ℕ) (e : End) → Serves k g → e ≢ Gone
    → Leaves (all_ended e (waiters_of k o) k g)

abbrev pub AllEndedKeepsSound : Type 0
AllEndedKeepsSound =
    (k : Kernel) (g : Memory) (o : ℕ) (e : End) → IsSound k → e ≢ Gone
    → IsSound (all_ended e (waiters_of k o) k g).kernel

abbrev pub AllEndedLeavesNone : Type 0
AllEndedLeavesNone =
    (k : Kernel) (g : Memory) (o : ℕ) (e : End) → IsSound k → e ≢ Gone
    → waiters_of (all_ended e (waiters_of k o) k g).kernel o ≡ []

-- an object but a thread for which nobody waits is no object any more, and one is removed
abbrev pub EmptiedKeepsSound : Type 0
EmptiedKeepsSound =
    (k : Kernel) (o : ℕ) → IsSound k → o < slot_limit → is_in Live (slot k.objects o) ≡ true
    → is_thread k o ≡ false → waiters_of k o ≡ [] → IsSound (slot_emptied (without_contents k o) o)

abbrev pub RemovedKeepsSound : Type 0
RemovedKeepsSound =
    (k : Kernel) (g : Memory) (o : ℕ) → IsSound k → o < slot_limit
    → is_in Live (slot k.objects o) ≡ true → is_thread k o ≡ false → IsSound (removed k g o).kernel

-- the order of the waiters changes
abbrev pub PrioritizedKeepsServing : Type 0
PrioritizedKeepsServing =
    (k : Kernel) (g : Memory) (o : ℕ) → Serves k g → Serves (prioritized k o) g

-- these change the waits by calls of their table, and begin none
pub record EndsByCalls (k : Kernel) (c : Change) : Type 0 where
  pub calls : CallsWaits k c
  pub only_ends : OnlyEnds k c.kernel

abbrev pub AllEndedCallsWaits : Type 0
AllEndedCallsWaits =
    (k : Kernel) (g : Memory) (o : ℕ) (e : End) → IsSound k → e ≢ Gone
    → EndsByCalls k (all_ended e (waiters_of k o) k g)

abbrev pub RemovedCallsWaits : Type 0
RemovedCallsWaits = (k : Kernel) (g : Memory) (o : ℕ) → IsSound k → EndsByCalls k (removed k g o)

abbrev pub PrioritizedCallsWaits : Type 0
PrioritizedCallsWaits =
    (k : Kernel) (g : Memory) (o : ℕ) → IsSound k → EndsByCalls k (quiet (prioritized k o) g)

-- how a wait ends by such a change: so, and it was that of a thread in the list
abbrev pub IsEndOf : Kernel → List ℕ → End → WaitEnd → Type 0
IsEndOf k ts e d = (d.how ≡ e) × ((t : ℕ) × (has t ts ≡ true) × (number_of k.waits t ≡ Some d.wait))

abbrev pub AllEndedEndsThem : Type 0
AllEndedEndsThem =
    (k : Kernel) (g : Memory) (e : End) (ts : List ℕ)
    → All (IsEndOf k ts e) (all_ended e ts k g).ends

abbrev pub RemovedEndsThem : Type 0
RemovedEndsThem =
    (k : Kernel) (g : Memory) (o : ℕ)
    → All (IsEndOf k (waiters_of k o) Deleted) (removed k g o).ends

-- no byte changes, where no wait has a result
abbrev pub AllEndedKeepsMemory : Type 0
AllEndedKeepsMemory =
    (k : Kernel) (g : Memory) (e : End) (ts : List ℕ) → All (HasNoResult k e) ts
    → (all_ended e ts k g).memory ≡ g

abbrev pub RemovedKeepsMemory : Type 0
RemovedKeepsMemory = (k : Kernel) (g : Memory) (o : ℕ) → (removed k g o).memory ≡ g

-- of the kernel threads and the scheduler change, waits and timeouts, and by a removal the object
abbrev pub with_ended : Kernel → Kernel → Kernel
with_ended k now =
    record k { ready = now.ready; threads = now.threads; waits = now.waits; wheel = now.wheel }

abbrev pub AllEndedChangesThreads : Type 0
AllEndedChangesThreads =
    (k : Kernel) (g : Memory) (e : End) (ts : List ℕ) → let now = (all_ended e ts k g).kernel in
    now ≡ with_ended k now

abbrev pub RemovedChangesOne : Type 0
RemovedChangesOne =
    (k : Kernel) (g : Memory) (o : ℕ) → let now = (removed k g o).kernel in
    now ≡ slot_emptied (without_contents (with_ended k now) o) o

abbrev pub PrioritizedChangesOrder : Type 0
PrioritizedChangesOrder =
    (k : Kernel) (o : ℕ) → prioritized k o ≡ record k { waits = (prioritized k o).waits }

-- who didn't wait for the object is as before; no thread changes its module, and none is completed
-- or terminated
pub record SparesThreads (ts : List ℕ) (k now : Kernel) : Type 0 where
  pub others : (t : ℕ) → has t ts ≡ false → thread now t ≡ thread k t
  pub modules : (t : ℕ) → module_of now t ≡ module_of k t
  pub over : (t : ℕ) → is_over (thread now t).state ≡ is_over (thread k t).state

abbrev pub AllEndedSparesThreads : Type 0
AllEndedSparesThreads =
    (k : Kernel) (g : Memory) (o : ℕ) (e : End) → IsSound k → e ≢ Gone
    → SparesThreads (waiters_of k o) k (all_ended e (waiters_of k o) k g).kernel

abbrev pub RemovedSparesThreads : Type 0
RemovedSparesThreads =
    (k : Kernel) (g : Memory) (o : ℕ) → IsSound k
    → SparesThreads (waiters_of k o) k (removed k g o).kernel

-- nothing begins and nothing is armed
abbrev pub AllEndedRaisesNone : Type 0
AllEndedRaisesNone =
    (k : Kernel) (g : Memory) (e : End) (ts : List ℕ) → RaisesCounts 0 k (all_ended e ts k g).kernel

abbrev pub RemovedRaisesNone : Type 0
RemovedRaisesNone = (k : Kernel) (g : Memory) (o : ℕ) → RaisesCounts 0 k (removed k g o).kernel

abbrev pub PrioritizedRaisesNone : Type 0
PrioritizedRaisesNone = (k : Kernel) (o : ℕ) → RaisesCounts 0 k (prioritized k o)

-- each is what a row keeps: of the table of slots a removal is one call
abbrev pub RemovedIsKept : Type 0
RemovedIsKept =
    (r : List Range) (k : Kernel) (g : Memory) (by o : ℕ) → Serves k g → k.ready.run ≡ Some by
    → is_in Free (slot k.objects o) ≡ false → IsKept r k g by (done (removed k g o))

abbrev pub PrioritizedIsKept : Type 0
PrioritizedIsKept =
    (r : List Range) (k : Kernel) (g : Memory) (by o : ℕ)
    → IsKept r k g by (done (quiet (prioritized k o) g))
