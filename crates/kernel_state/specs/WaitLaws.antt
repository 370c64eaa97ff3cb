-- The beginning and the end of a wait, and a tick, keep a kernel sound; by how much they raise its
-- counts; and what the end of a thread leaves alone.
use Rattle.std.specs.Prelude.{◌≡◌, ◌≢◌, ◌⊎◌, ℕ, ◌^◌, ◌<◌, true, false, List, ◌++◌, length, IfSome, IsSome, Some}
use Rattle.tx_types.specs.declared.state.State.{State}
use Rattle.tx_types.specs.declared.state.State.TheVariants.{Completed, Terminated}
use Rattle.tx_types.specs.declared.waits.End.{End}
use Rattle.tx_types.specs.declared.waits.End.TheVariants.{Satisfied, Gone}
use Rattle.object_grants.specs.Table.{slot}
use Rattle.ready_maps.specs.Sched.{is_ready}
use Rattle.region_guard.specs.Memory.{Memory}
use Rattle.suspend_lists.specs.Wait.{place, place_count}
use Rattle.suspend_lists.specs.Waits.{IsTable, WaitTable, begun, place_of, put_first, wait_of}
use Rattle.suspend_lists.specs.declared.wait.Wait.{Wait}
use Rattle.soft_timers.specs.Timers.{TimerTable}
use Rattle.kernel_state.specs.Change.{Change, quiet}
use Rattle.kernel_state.specs.Contents.{ArePromised, IsAsked, IsPromised, result_words}
use Rattle.kernel_state.specs.Kernel.{is_thread, module_of, thread}
use Rattle.kernel_state.specs.Room.{HasRoom, RaisesCounts}
use Rattle.kernel_state.specs.Serves.{Serves}
use Rattle.kernel_state.specs.Sound.{IsSound, IsSoundBut}
use Rattle.kernel_state.specs.Thread.{is_waiting}
use Rattle.kernel_state.specs.ThreadChanges.{ended, over_by}
use Rattle.kernel_state.specs.ThreadLaws.{Leaves}
use Rattle.kernel_state.specs.Ticks.{advanced}
use Rattle.kernel_state.specs.WaitCalls.{CallsWaits, LeavesWaits, OnlyEnds}
use Rattle.kernel_state.specs.Waiting.{MayHaveResult, wait_begun, wait_ended}
use Rattle.kernel_state.specs.declared.kernel.Kernel.{Kernel}

-- a ready thread begins to wait
abbrev pub BeginKeepsSound : Type 0
BeginKeepsSound =
    (but : List ℕ) (k : Kernel) (t : ℕ) (w : Wait) (ticks : ℕ) → IsSoundBut but k
    → is_thread k t ≡ true
    → is_ready k.ready t ≡ true → IsAsked k.objects k.queues k.semas w → IsTable (begun k.waits t w)
    → 0 < ticks → ticks < 2 ^ 32
    → IsSoundBut but (wait_begun k t w ticks)

-- the wait of a thread that goes on ends
abbrev pub WaitEndKeepsSound : Type 0
WaitEndKeepsSound =
    (but : List ℕ) (k : Kernel) (g : Memory) (t : ℕ) (e : End) (value : List ℕ) → IsSoundBut but k
    → IsSome (wait_of k.waits t) → e ≢ Gone → IsSoundBut but (wait_ended k g t e value).kernel

-- the same for a kernel that serves: a wait begins whose result may be stored where it was
-- promised, ends, or goes first at its place
abbrev pub BeginKeepsServing : Type 0
BeginKeepsServing =
    (k : Kernel) (g : Memory) (t : ℕ) (w : Wait) (ticks : ℕ) → Serves k g → is_thread k t ≡ true
    → is_ready k.ready t ≡ true → IsAsked k.objects k.queues k.semas w
    → IsPromised g (module_of k t) k.queues w → 0 < ticks → ticks < 2 ^ 32
    → Serves (wait_begun k t w ticks) g

abbrev pub WaitEndKeepsServing : Type 0
WaitEndKeepsServing =
    (k : Kernel) (g : Memory) (t : ℕ) (e : End) (value : List ℕ) → Serves k g
    → IsSome (wait_of k.waits t) → e ≢ Gone → Leaves (wait_ended k g t e value)

abbrev pub ToFrontKeepsServing : Type 0
ToFrontKeepsServing =
    (k : Kernel) (g : Memory) (t : ℕ) → Serves k g → IsSome (place_of k.waits t)
    → Serves (record k { waits = put_first k.waits t }) g

-- a message of its queue may be stored where a receiver of a kernel that serves wants it
abbrev pub PromiseIsKept : Type 0
PromiseIsKept =
    (k : Kernel) (g : Memory) (t : ℕ) (w : Wait) (m : List ℕ) → Serves k g
    → wait_of k.waits t ≡ Some w → length m ≡ result_words k.queues w.on
    → MayHaveResult k g t Satisfied m

-- a wait that is pending after a change was so before it; its thread's slot has the same owner, and
-- a result at its place is of as many words
pub record IsWaitLeft (k now : Kernel) (t : ℕ) (w : Wait) : Type 0 where
  pub is : wait_of k.waits t ≡ Some w
  pub owner : (slot now.objects t).owner ≡ (slot k.objects t).owner
  pub words : result_words now.queues w.on ≡ result_words k.queues w.on

-- where a result was promised it may be stored after a change that leaves the regions of memory,
-- and begins no wait
abbrev pub PromisesStay : Type 0
PromisesStay =
    (k now : Kernel) (g h : Memory) → ArePromised g k.objects k.queues k.waits
    → h.regions ≡ g.regions
    → ((t : ℕ) (w : Wait) → wait_of now.waits t ≡ Some w → IsWaitLeft k now t w)
    → ArePromised h now.objects now.queues now.waits

-- a tick comes
abbrev pub TickKeepsServing : Type 0
TickKeepsServing = (k : Kernel) (g : Memory) → Serves k g → HasRoom k → Leaves (advanced k g)

-- one change begins one wait at most and arms one timeout at most; an end raises no count
abbrev pub BeginRaisesOne : Type 0
BeginRaisesOne =
    (k : Kernel) (t : ℕ) (w : Wait) (ticks : ℕ) → RaisesCounts 1 k (wait_begun k t w ticks)

abbrev pub WaitEndRaisesNone : Type 0
WaitEndRaisesNone =
    (k : Kernel) (g : Memory) (t : ℕ) (e : End) (value : List ℕ)
    → RaisesCounts 0 k (wait_ended k g t e value).kernel

abbrev pub EndRaisesNone : Type 0
EndRaisesNone =
    (k : Kernel) (g : Memory) (t : ℕ) (state : State) → RaisesCounts 0 k (ended k g t state).kernel

abbrev pub TickRaisesOne : Type 0
TickRaisesOne = (k : Kernel) (g : Memory) → RaisesCounts 1 k (advanced k g).kernel

-- the end of a thread changes no byte, and but for waits and timeouts its own entry and the
-- scheduler alone
abbrev pub with_waits : Kernel → WaitTable → TimerTable → Kernel
with_waits k w h = record k { waits = w; wheel = h }

abbrev pub EndKeepsMemory : Type 0
EndKeepsMemory = (k : Kernel) (g : Memory) (t : ℕ) (state : State) → (ended k g t state).memory ≡ g

abbrev pub EndChangesOne : Type 0
EndChangesOne =
    (k : Kernel) (g : Memory) (t : ℕ) (state : State) → let now = (ended k g t state).kernel in
    now ≡ with_waits (over_by k t state) now.waits now.wheel

-- the beginning and the end of a wait, the end of a thread, and a tick change the waits by calls of
-- their table alone
abbrev pub BeginCallsWaits : Type 0
BeginCallsWaits =
    (k : Kernel) (g : Memory) (t : ℕ) (w : Wait) (ticks : ℕ) → IsSound k → is_thread k t ≡ true
    → is_waiting (thread k t).state ≡ false → IfSome (place w.on) (λ p. p < place_count)
    → CallsWaits k (quiet (wait_begun k t w ticks) g)

abbrev pub WaitEndCallsWaits : Type 0
WaitEndCallsWaits =
    (k : Kernel) (g : Memory) (t : ℕ) (e : End) (value : List ℕ) → IsSound k
    → IsSome (wait_of k.waits t) → e ≢ Gone
    → CallsWaits k (wait_ended k g t e value)

abbrev pub EndCallsWaits : Type 0
EndCallsWaits =
    (k : Kernel) (g : Memory) (t : ℕ) (state : State) → IsSound k → is_thread k t ≡ true
    → (state ≡ Completed) ⊎ (state ≡ Terminated) → CallsWaits k (ended k g t state)

abbrev pub TickCallsWaits : Type 0
TickCallsWaits = (k : Kernel) (g : Memory) → Serves k g → HasRoom k → CallsWaits k (advanced k g)

-- so does a change that leaves them, by none; and so do two changes, where the first begins no wait
-- and the second leaves over who was
abbrev pub LeftCallsWaits : Type 0
LeftCallsWaits = (k : Kernel) (c : Change) → LeavesWaits k c → CallsWaits k c

abbrev pub FollowedCallsWaits : Type 0
FollowedCallsWaits =
    (k : Kernel) (c d : Change) → CallsWaits k c → OnlyEnds k c.kernel → CallsWaits c.kernel d
    → OnlyEnds c.kernel d.kernel → CallsWaits k (record d { ends = c.ends ++ d.ends })

-- by the end of a thread no wait begins
abbrev pub EndOnlyEnds : Type 0
EndOnlyEnds =
    (k : Kernel) (g : Memory) (t : ℕ) (state : State) → (state ≡ Completed) ⊎ (state ≡ Terminated)
    → OnlyEnds k (ended k g t state).kernel
