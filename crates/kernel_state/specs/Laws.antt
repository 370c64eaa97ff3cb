-- The steps by which a kernel stays sound: one thread changes, a slot changes, a thread is made, an
-- object is removed.
use Rattle.std.specs.Prelude.{◌≡◌, ◌≢◌, ◌⊎◌, ℕ, ◌<◌, ◌≤◌, true, false, List, [], length, All, IfSome, IsSome, Option, Some, slice_set}
use Rattle.tx_types.specs.Limits.{module_limit, slot_limit}
use Rattle.tx_types.specs.declared.kind.Kind.{Kind}
use Rattle.tx_types.specs.declared.kind.Kind.TheVariants.{Thread as ThreadKind}
use Rattle.tx_types.specs.declared.state.State.TheVariants.{Ready}
use Rattle.object_grants.specs.Slot.{is_in, is_kind}
use Rattle.object_grants.specs.Table.{slot, with_slot}
use Rattle.object_grants.specs.declared.slot.Slot.{Slot}
use Rattle.object_grants.specs.declared.slot.SlotState.TheVariants.{Empty}
use Rattle.ready_maps.specs.Kept.{IsKept}
use Rattle.ready_maps.specs.Sched.{Sched, has, is_ready, pr, th}
use Rattle.rv_core.specs.Hart.{HartState}
use Rattle.soft_timers.specs.Timers.{IsWheel, TimerTable, armed}
use Rattle.suspend_lists.specs.Waits.{IsTable, WaitTable, wait_of}
use Rattle.suspend_lists.specs.declared.wait.Wait.{Wait}
use Rattle.kernel_state.specs.Contents.{AreAsked, AreContents, IsAsked, is_of}
use Rattle.kernel_state.specs.Kernel.{thread, with_thread, is_live_of, is_thread, module_of, spot, with_spot, placed, removed_thread, effective_priority, effective_threshold}
use Rattle.kernel_state.specs.Scheduling.{ChangesOnly}
use Rattle.kernel_state.specs.Sound.{IsSound, IsSoundBut, IsSettled, IsEntry, IsSpot, IsClean, IsSlice, IsTimeoutOf, IsWaitOf}
use Rattle.kernel_state.specs.Thread.{is_over, is_state, is_waiting}
use Rattle.kernel_state.specs.declared.kernel.Kernel.{Kernel}
use Rattle.kernel_state.specs.declared.spot.Spot.{Spot}
use Rattle.kernel_state.specs.declared.thread.Thread.{Thread}
use Rattle.kernel_state.specs.declared.thread.ThreadSpec.{ThreadSpec}

-- a thread with the same user's priority has the same effective one, and with the same threshold
-- too the same effective pair
abbrev pub EffectiveStays : Type 0
EffectiveStays =
    (k now : Kernel) (t : ℕ) → (thread now t).priority ≡ (thread k t).priority
    → (effective_priority now t ≡ effective_priority k t)
    × ((thread now t).threshold ≡ (thread k t).threshold
    → effective_threshold now t ≡ effective_threshold k t)

-- an effective pair is one that the scheduler takes
abbrev pub EffectiveFits : Type 0
EffectiveFits =
    (k : Kernel) (t : ℕ) → (thread k t).priority < k.ready.levels
    → (effective_threshold k t ≤ effective_priority k t) × (effective_priority k t < k.ready.levels)

-- two entries are the same in all that soundness asks of a thread: in all but registers, and
-- whether it was ever started
pub record AreAlike (a b : Thread) : Type 0 where
  pub «module» : b.module ≡ a.module
  pub state : b.state ≡ a.state
  pub priority : b.priority ≡ a.priority
  pub threshold : b.threshold ≡ a.threshold
  pub slice : b.slice ≡ a.slice
  pub left : b.left ≡ a.left
  pub held : b.held ≡ a.held

-- a number stays a thread, or none, and looks the same
pub record EntryStays (k now : Kernel) (u : ℕ) : Type 0 where
  pub live : is_thread now u ≡ is_thread k u
  pub alike : AreAlike (thread k u) (thread now u)
  pub owner : is_thread k u ≡ true → (slot now.objects u).owner ≡ (slot k.objects u).owner
  pub ready : is_ready now.ready u ≡ is_ready k.ready u
  pub priority : pr now.ready u ≡ pr k.ready u
  pub threshold : th now.ready u ≡ th k.ready u
  pub wait : wait_of now.waits u ≡ wait_of k.waits u

-- a number is right: a thread with its facts and, but for some, settled; or no thread, and not
-- ready
pub record IsRight (but : List ℕ) (k : Kernel) (u : ℕ) : Type 0 where
  pub entry : IsEntry k u (is_thread k u)
  pub settled : is_thread k u ≡ true → has u but ≡ false → IsSettled k u

-- a kernel is sound where another was: each number looks the same or is right, and slots, spots and
-- timeouts are as they must be
pub record IsSoundFrom (but : List ℕ) (k now : Kernel) : Type 0 where
  pub scheduler : IsKept now.ready
  pub levels : now.ready.levels ≡ k.ready.levels
  pub slots : length now.objects ≡ length k.objects
  pub threads : length now.threads ≡ length k.threads
  pub spots : length now.spots ≡ length k.spots
  pub waits : IsTable now.waits
  pub wheel : IsWheel now.wheel
  pub clean : (o : ℕ) → o < slot_limit → IsClean (slot now.objects o) (slot now.objects o).state
  pub contents : AreContents now.objects now.queues now.semas
  pub asked : AreAsked now.objects now.queues now.semas now.waits
  pub entries : (u : ℕ) → u < slot_limit → EntryStays k now u ⊎ IsRight but now u
  pub timeouts : (i : ℕ) → IsTimeoutOf (wait_of now.waits i) (armed now.wheel i)
  pub places : (m : ℕ) → m < module_limit → IsSpot now m (spot now m)

abbrev pub SoundFrom : Type 0
SoundFrom =
    (but : List ℕ) (k now : Kernel) → IsSoundBut but k → IsSoundFrom but k now → IsSoundBut but now

-- a thread and the scheduler
abbrev pub with_both : Kernel → ℕ → Thread → Sched → Kernel
with_both k t now s = record k { threads = slice_set k.threads t now; ready = s }

-- waits and timeouts that go with them
abbrev pub with_all : Kernel → ℕ → Thread → Sched → WaitTable → TimerTable → Kernel
with_all k t now s w h =
    record k { threads = slice_set k.threads t now; ready = s; waits = w; wheel = h }

-- waits and timeouts changed for thread t alone
pub record WaitsChangeOnly (k : Kernel) (w : WaitTable) (h : TimerTable) (t : ℕ) : Type 0 where
  pub waits : IsTable w
  pub wheel : IsWheel h
  pub others : (u : ℕ) → u ≢ t → wait_of w u ≡ wait_of k.waits u
  pub other_timeouts : (i : ℕ) → i ≢ t → armed h i ≡ armed k.wheel i
  pub timeout : IsTimeoutOf (wait_of w t) (armed h t)
  pub asked : IfSome (wait_of w t) (IsAsked k.objects k.queues k.semas)

-- the own facts of a thread that changes, by the scheduler that goes with it and its wait
pub record Suits (s : Sched) (o : Option Wait) (t : ℕ) (now : Thread) : Type 0 where
  pub ready : is_ready s t ≡ is_state now.state Ready
  pub priority : now.priority < s.levels
  pub threshold : now.threshold ≤ now.priority
  pub slice : IsSlice now.slice now.left
  pub held : now.held ≡ true → is_waiting now.state ≡ true
  pub wait : IsWaitOf now.state o

-- one thread and the scheduler change, and agree
abbrev pub OneThreadChanges : Type 0
OneThreadChanges =
    (but : List ℕ) (k : Kernel) (t : ℕ) (now : Thread) (s : Sched) → IsSoundBut but k
    → is_thread k t ≡ true
    → now.module ≡ module_of k t → ChangesOnly k.ready s t → Suits s (wait_of k.waits t) t now
    → (has t but ≡ false → IsSettled (with_both k t now s) t) → IsSoundBut but (with_both k t now s)

-- so it is where the thread keeps its numbers, in the scheduler too
pub record KeepsNumbers (k : Kernel) (t : ℕ) (now : Thread) (s : Sched) : Type 0 where
  pub «module» : now.module ≡ module_of k t
  pub priority : now.priority ≡ (thread k t).priority
  pub threshold : now.threshold ≡ (thread k t).threshold
  pub others : ChangesOnly k.ready s t
  pub in_scheduler : pr s t ≡ pr k.ready t
  pub threshold_in_scheduler : th s t ≡ th k.ready t

abbrev pub OneStateChanges : Type 0
OneStateChanges =
    (but : List ℕ) (k : Kernel) (t : ℕ) (now : Thread) (s : Sched) → IsSoundBut but k
    → is_thread k t ≡ true
    → KeepsNumbers k t now s → is_ready s t ≡ is_state now.state Ready → IsSlice now.slice now.left
    → (now.held ≡ true → is_waiting now.state ≡ true) → IsWaitOf now.state (wait_of k.waits t)
    → IsSoundBut but (with_both k t now s)

-- so it is too where the thread's wait begins or ends
abbrev pub OneWaitChanges : Type 0
OneWaitChanges =
    (but : List ℕ) (k : Kernel) (t : ℕ) (now : Thread) (s : Sched) (w : WaitTable) (h : TimerTable)
    → IsSoundBut but k → is_thread k t ≡ true → KeepsNumbers k t now s
    → is_ready s t ≡ is_state now.state Ready
    → IsSlice now.slice now.left → (now.held ≡ true → is_waiting now.state ≡ true)
    → IsWaitOf now.state (wait_of w t) → WaitsChangeOnly k w h t
    → IsSoundBut but (with_all k t now s w h)

-- a thread's registers change
abbrev pub OneHartChanges : Type 0
OneHartChanges =
    (k : Kernel) (t : ℕ) (h : HartState) → IsSound k → t < slot_limit
    → IsSound (with_thread k t (record (thread k t) { hart = h }))

-- a module's spot changes
abbrev pub OneSpotChanges : Type 0
OneSpotChanges =
    (k : Kernel) (m : ℕ) (now : Spot) → IsSound k → IsSpot k m now → IsSound (with_spot k m now)

-- a slot changes, and has a Live object of the same kind as before, or none
abbrev pub OneSlotChanges : Type 0
OneSlotChanges =
    (k : Kernel) (o : ℕ) (now : Slot) → IsSound k → o < slot_limit → IsClean now now.state
    → ((kind : Kind) → is_live_of kind now ≡ is_of k.objects kind o)
    → (is_thread k o ≡ true → now.owner ≡ (slot k.objects o).owner)
    → IsSound (record k { objects = with_slot k.objects o now })

-- a thread is made in an Empty slot of its kind and module
abbrev pub OneThreadIsMade : Type 0
OneThreadIsMade =
    (k : Kernel) (o : ℕ) (name : List ℕ) (s : ThreadSpec) → IsSound k
    → is_in Empty (slot k.objects o) ≡ true
    → is_kind ThreadKind (slot k.objects o) ≡ true → s.module ≡ (slot k.objects o).owner
    → All (λ b. b ≢ 0) name
    → s.threshold ≤ s.priority → s.priority < k.ready.levels
    → IsSound (placed k o name s)

-- a thread that is over is removed
abbrev pub OneThreadIsRemoved : Type 0
OneThreadIsRemoved =
    (k : Kernel) (t : ℕ) → IsSound k → t < slot_limit → is_thread k t ≡ true
    → is_over (thread k t).state ≡ true
    → IsSound (removed_thread k t)

-- the running thread is ready, and who is ready is a thread
abbrev pub RunningIsReady : Type 0
RunningIsReady = (k : Kernel) (t : ℕ) → IsSound k → k.ready.run ≡ Some t → is_ready k.ready t ≡ true

abbrev pub ReadyIsThread : Type 0
ReadyIsThread = (k : Kernel) (t : ℕ) → IsSound k → is_ready k.ready t ≡ true → is_thread k t ≡ true

-- a thread of a sound kernel has its facts, a number of a slot, and its effective pair in the
-- scheduler
abbrev pub ThreadIsRight : Type 0
ThreadIsRight =
    (k : Kernel) (t : ℕ) → IsSound k → is_thread k t ≡ true → (t < slot_limit) × IsRight [] k t

-- who is in a state of waiting is in a wait
abbrev pub WaiterHasWait : Type 0
WaiterHasWait =
    (k : Kernel) (t : ℕ) → IsSound k → is_thread k t ≡ true → is_waiting (thread k t).state ≡ true
    → IsSome (wait_of k.waits t)
