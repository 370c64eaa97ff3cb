-- What holds of the kernel's state: it is formed, and the scheduler has each thread's effective
-- pair.
use Rattle.std.specs.Prelude.{◌≡◌, ◌≢◌, ◌⊎◌, ℕ, ◌%◌, ◌<◌, ◌≤◌, Bool, true, false, List, [], length, All, Option, None, Some, IfSome, IsSome}
use Rattle.tx_types.specs.Limits.{module_limit, slot_limit}
use Rattle.tx_types.specs.declared.state.State.{State}
use Rattle.tx_types.specs.declared.state.State.TheVariants.{Ready}
use Rattle.object_grants.specs.Table.{slot}
use Rattle.object_grants.specs.declared.slot.Slot.{Slot}
use Rattle.object_grants.specs.declared.slot.SlotState.{SlotState}
use Rattle.object_grants.specs.declared.slot.SlotState.TheVariants.{Free, Empty, Live}
use Rattle.ready_maps.specs.Sched.{has, pr, th, is_ready}
use Rattle.ready_maps.specs.Kept.{IsKept}
use Rattle.soft_timers.specs.Timers.{IsWheel, armed}
use Rattle.soft_timers.specs.declared.due.Armed.{Armed}
use Rattle.suspend_lists.specs.Waits.{IsTable, wait_of}
use Rattle.suspend_lists.specs.declared.wait.Asks.TheVariants.{Sleep}
use Rattle.suspend_lists.specs.declared.wait.Wait.{Wait}
use Rattle.kernel_state.specs.Contents.{AreContents, AreAsked}
use Rattle.kernel_state.specs.Thread.{is_state, is_waiting}
use Rattle.kernel_state.specs.Kernel.{thread, is_thread, module_of, spot, effective_priority, effective_threshold}
use Rattle.kernel_state.specs.Waiting.{state_of_ask}
use Rattle.kernel_state.specs.declared.kernel.Kernel.{Kernel}
use Rattle.kernel_state.specs.declared.spot.Spot.{Spot}

-- a slot without an object has no name and no grants, and one that is free no owner either; no name
-- has a zero byte
abbrev pub IsClean : Slot → SlotState → Type 0
IsClean s Free = (s.owner ≡ 0) × (s.grants ≡ 0) × (s.name ≡ [])
IsClean s Empty = (s.grants ≡ 0) × (s.name ≡ [])
IsClean s Live = All (λ b. b ≢ 0) s.name

-- a slice of 0 is never used up; else between 1 and all of it is left
abbrev pub IsSlice : ℕ → ℕ → Type 0
IsSlice slice left = ((slice ≡ 0) × (left ≡ 0)) ⊎ ((1 ≤ left) × (left ≤ slice))

-- who is in a wait has the state of what it asked for, and who isn't is in no such state
abbrev pub IsWaitOf : State → Option Wait → Type 0
IsWaitOf state None = is_waiting state ≡ false
IsWaitOf state (Some w) = state ≡ state_of_ask w.asks

-- a sleeper's timeout is armed, and who is in no wait has none that is; timers are never armed yet
abbrev pub IsTimeoutOf : Option Wait → Option Armed → Type 0
IsTimeoutOf None timeout = timeout ≡ None
IsTimeoutOf (Some w) timeout = w.asks ≡ Sleep → IsSome timeout

-- a thread's own facts: it agrees with its slot and its wait, and its numbers are in range
pub record IsThread (k : Kernel) (t : ℕ) : Type 0 where
  pub owner : module_of k t ≡ (slot k.objects t).owner
  pub ready : is_ready k.ready t ≡ is_state (thread k t).state Ready
  pub priority : (thread k t).priority < k.ready.levels
  pub threshold : (thread k t).threshold ≤ (thread k t).priority
  pub slice : IsSlice (thread k t).slice (thread k t).left
  pub held : (thread k t).held ≡ true → is_waiting (thread k t).state ≡ true
  pub wait : IsWaitOf (thread k t).state (wait_of k.waits t)

-- what is no thread isn't ready, and waits for nothing
abbrev pub IsEntry : Kernel → ℕ → Bool → Type 0
IsEntry k t true = IsThread k t
IsEntry k t false = (is_ready k.ready t ≡ false) × (wait_of k.waits t ≡ None)

-- a module's threads begin at a multiple of 4, and its callback thread is a thread of its own
pub record IsSpot (k : Kernel) (m : ℕ) (s : Spot) : Type 0 where
  pub shell : s.shell % 4 ≡ 0
  pub callback : IfSome s.callback (λ t. (t < slot_limit) × (is_thread k t ≡ true)
      × (module_of k t ≡ m))

-- the tables, their slots, what is in the objects and is asked of them, the spots, the own facts of
-- each thread, and the timeouts
pub record IsFormed (k : Kernel) : Type 0 where
  pub scheduler : IsKept k.ready
  pub slots : length k.objects ≡ slot_limit
  pub threads : length k.threads ≡ slot_limit
  pub spots : length k.spots ≡ module_limit
  pub waits : IsTable k.waits
  pub wheel : IsWheel k.wheel
  pub clean : (o : ℕ) → o < slot_limit → IsClean (slot k.objects o) (slot k.objects o).state
  pub contents : AreContents k.objects k.queues k.semas
  pub asked : AreAsked k.objects k.queues k.semas k.waits
  pub entries : (t : ℕ) → t < slot_limit → IsEntry k t (is_thread k t)
  pub timeouts : (i : ℕ) → IsTimeoutOf (wait_of k.waits i) (armed k.wheel i)
  pub places : (m : ℕ) → m < module_limit → IsSpot k m (spot k m)

-- the pair that a thread has in the scheduler is its effective pair
pub record IsSettled (k : Kernel) (t : ℕ) : Type 0 where
  pub priority : pr k.ready t ≡ effective_priority k t
  pub threshold : th k.ready t ≡ effective_threshold k t

-- a kernel is formed, and each thread but these is settled
pub record IsSoundBut (but : List ℕ) (k : Kernel) : Type 0 where
  pub formed : IsFormed k
  pub settled : (t : ℕ) → is_thread k t ≡ true → has t but ≡ false → IsSettled k t

abbrev pub IsSound : Kernel → Type 0
IsSound k = IsSoundBut [] k
