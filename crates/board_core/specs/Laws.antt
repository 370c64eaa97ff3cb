-- Laws of the written machine, over every event.
use Rattle.std.specs.Prelude.{◌≡◌, ◌≢◌, ◌⊎◌, ⊤, ℕ, ◌+◌, ◌<◌, ◌≤◌, true, List, [], ◌∷◌, All, fold}
use Rattle.std.specs.Prelude.{Some, length, map}
use Rattle.std.specs.List.{Contains}
use Rattle.tx_types.specs.Limits.{interrupt_limit, step_limit}
use Rattle.event_log.specs.Events.{Event, Step, Irq}
use Rattle.kernel_state.specs.Change.{Change}
use Rattle.kernel_state.specs.Kernel.{thread, is_thread, module_of}
use Rattle.kernel_state.specs.Range.{IsOutsideAll, Range}
use Rattle.kernel_state.specs.Results.{result_range}
use Rattle.kernel_state.specs.Room.{RaisesCounts}
use Rattle.kernel_state.specs.Serves.{Serves}
use Rattle.kernel_state.specs.Thread.{is_over}
use Rattle.kernel_state.specs.WaitCalls.{CallsWaits, EndsWithItsThread}
use Rattle.kernel_state.specs.declared.kernel.Kernel.{Kernel}
use Rattle.module_loader.specs.Want.{want_of}
use Rattle.module_manager.specs.Modules.{module_at}
use Rattle.module_manager.specs.declared.modules.Module.{Module}
use Rattle.module_manager.specs.declared.modules.ModuleState.TheVariants.{Faulted}
use Rattle.region_guard.specs.Memory.{Memory, IsSound as IsSoundMemory, byte, bytes_from}
use Rattle.rv_core.specs.Execute.{Effect, Completes, Stores, Calls, Faults}
use Rattle.rv_core.specs.declared.bus.Cause.{Cause}
use Rattle.suspend_lists.specs.Laws.{IsCounted}
use Rattle.suspend_lists.specs.Waits.{ended_count, number_of, pending_count}
use Rattle.tx_types.specs.declared.waits.End.TheVariants.{Satisfied}
use Rattle.board_file.specs.Rules.{IsBoard}
use Rattle.board_file.specs.declared.board.Board.{Board}
use Rattle.board_core.specs.After.{after}
use Rattle.board_core.specs.Boot.{booted_parts, regions_of}
use Rattle.board_core.specs.Frame.{frame}
use Rattle.board_core.specs.Owners.{AreOwned, IsStarted}
use Rattle.board_core.specs.Report.{report_of}
use Rattle.board_core.specs.Step.{next_effect}
use Rattle.board_core.specs.Trace.{AreTallied, IsTallied, Traced, ends, next}
use Rattle.board_core.specs.World.{World}

-- the counts of a kernel's waits, armings and ticks are at most n
pub record CountsAtMost (n : ℕ) (k : Kernel) : Type 0 where
  pub begun : k.waits.totals.begun ≤ n
  pub armings : k.wheel.armings ≤ n
  pub ticks : k.wheel.ticks ≤ n

-- what holds of every world that a machine stands for
pub record IsWorld (w : World) : Type 0 where
  pub board : IsBoard w.board
  pub serves : Serves w.parts.kernel w.parts.memory
  pub memory : IsSoundMemory w.parts.memory
  pub regions : w.parts.memory.regions ≡ regions_of 0 w.parts.modules
  pub modules : length w.parts.modules ≡ length w.board.modules
  pub devices : length w.parts.devices ≡ length w.board.devices
  pub taken : All (λ d. d.taken ≤ w.irqs) w.parts.devices
  pub owned : AreOwned w.parts.modules w.parts.kernel.objects
  pub steps : w.steps ≤ step_limit
  pub irqs : w.irqs ≤ interrupt_limit
  pub counts : CountsAtMost (w.steps + w.irqs) w.parts.kernel

-- the world of a trace is what its events make of the first one
abbrev pub TraceLaw : Type 0
TraceLaw = (t : Traced) (es : List Event) → (fold next t es).now ≡ fold after t.now es

-- no event loses a wait or ends one twice
abbrev pub TallyStays : Type 0
TallyStays =
    (t : Traced) (e : Event) → IsWorld t.now → IsTallied t → IsTallied (next t e)

-- a wait ends as Gone only where its thread is completed or terminated in that event
abbrev pub GoneIsOver : Type 0
GoneIsOver =
    (w : World) (e : Event) → IsWorld w
    → All (EndsWithItsThread w.parts.kernel (after w e).parts.kernel) (ends w e)

-- a report's totals count the waits that ended, and as many began as are pending and ended
abbrev pub TotalsAreOfEnded : Type 0
TotalsAreOfEnded =
    (t : Traced) → IsTallied t
    → let totals = (report_of t.now).totals in
    IsCounted totals t.ended
    × (totals.begun ≡ pending_count t.now.parts.kernel.waits + ended_count totals)

-- a booted board begins with no wait, nothing armed and no tick
abbrev pub BootBeginsNone : Type 0
BootBeginsNone =
    (b : Board) (images : List (List ℕ)) → let k = (booted_parts b images).kernel in
    AreTallied k.waits [] × CountsAtMost 0 k

-- what an event leaves of kernel and memory, and the waits that it ends
abbrev pub change_by : World → Event → Change
change_by w e =
    let p = (after w e).parts in
    record { kernel = p.kernel; memory = p.memory; ends = ends w e }

-- an event changes waits by calls of their table alone
abbrev pub EventCallsWaits : Type 0
EventCallsWaits =
    (w : World) (e : Event) → IsWorld w → CallsWaits w.parts.kernel (change_by w e)

-- an event begins one wait at most, arms one timeout at most, and is one tick at most
abbrev pub EventRaisesCounts : Type 0
EventRaisesCounts =
    (w : World) (e : Event) → IsWorld w → RaisesCounts 1 w.parts.kernel (after w e).parts.kernel

-- each byte outside of an event's frame stays
abbrev pub FrameLaw : Type 0
FrameLaw =
    (w : World) (e : Event) (x : ℕ) → IsWorld w → IsOutsideAll (frame w e) x
    → byte (after w e).parts.memory x ≡ byte w.parts.memory x

-- an address of a module's code, and one of its data
abbrev pub IsCodeOf : World → ℕ → ℕ → Type 0
IsCodeOf w m x =
    let ms = w.parts.modules in
    let r = module_at ms m in
    (m < length ms)
    × (r.placed.code_base ≤ x) × (x < r.placed.code_base + (want_of r.preamble).code)

abbrev pub IsDataOf : World → ℕ → ℕ → Type 0
IsDataOf w m x =
    let ms = w.parts.modules in
    let r = module_at ms m in
    (m < length ms)
    × (r.placed.data_base ≤ x) × (x < r.placed.data_base + (want_of r.preamble).data_bytes)

-- no event writes code
abbrev pub CodeIsInNoFrame : Type 0
CodeIsInNoFrame =
    (w : World) (e : Event) (m x : ℕ) → IsWorld w → IsCodeOf w m x → IsOutsideAll (frame w e) x

-- a store or a call
abbrev pub Writes : Effect → Type 0
Writes (Completes h) = ⊥
Writes (Stores a n value h) = ⊤
Writes (Calls h) = ⊤
Writes (Faults cause) = ⊥

-- the event is a store or a call of a thread of module m
abbrev pub IsWriteOf : World → ℕ → Event → Type 0
IsWriteOf w m Step =
    (t : ℕ) × (w.parts.kernel.ready.run ≡ Some t) × (module_of w.parts.kernel t ≡ m)
    × Writes (next_effect w.parts t)
IsWriteOf w m (Irq d word) = ⊥

-- a call of a thread of module m is pending, its result goes where address x is, and the event ends
-- its wait as Satisfied
pub record IsResultOf (w : World) (m x : ℕ) (e : Event) : Type 0 where
  pub waiter : ℕ
  pub «module» : module_of w.parts.kernel waiter ≡ m
  pub number : ℕ
  pub its_number : number_of w.parts.kernel.waits waiter ≡ Some number
  pub satisfied : Contains (ends w e) (record { wait = number; how = Satisfied })
  pub to : Range
  pub its_place : result_range w.parts.kernel waiter ≡ to ∷ []
  pub from_base : to.base ≤ x
  pub to_end : x < to.base + to.size

-- a byte of a module's data changes only by a store or a call of that module, or as the result of a
-- pending call of that module; no module is started but at boot
abbrev pub DataIsItsModules : Type 0
DataIsItsModules =
    (w : World) (e : Event) (m x : ℕ) → IsWorld w → IsDataOf w m x
    → byte (after w e).parts.memory x ≢ byte w.parts.memory x
    → IsWriteOf w m e ⊎ IsResultOf w m x e

-- the next instruction can't be executed
abbrev pub IsFaulting : World → ℕ → Cause → Type 0
IsFaulting w t cause =
    (w.parts.kernel.ready.run ≡ Some t) × (next_effect w.parts t ≡ Faults cause)

-- a fault deletes, completes or terminates no thread of another module, and changes no byte
abbrev pub FaultSparesOthers : Type 0
FaultSparesOthers =
    (w : World) (t u : ℕ) (cause : Cause) → IsWorld w → IsFaulting w t cause
    → let k = w.parts.kernel in
    let now = (after w Step).parts.kernel in
    is_thread k u ≡ true → module_of k u ≢ module_of k t
    → (is_thread now u ≡ true) × (is_over (thread now u).state ≡ is_over (thread k u).state)

abbrev pub FaultKeepsBytes : Type 0
FaultKeepsBytes =
    (w : World) (t : ℕ) (cause : Cause) → IsFaulting w t cause
    → (after w Step).parts.memory ≡ w.parts.memory

-- used slots stay with started modules
abbrev pub OwnersStay : Type 0
OwnersStay =
    (w : World) (e : Event) → IsWorld w
    → AreOwned (after w e).parts.modules (after w e).parts.kernel.objects

-- the running thread's module is started
abbrev pub RunnerIsStarted : Type 0
RunnerIsStarted =
    (w : World) (t : ℕ) → IsWorld w → w.parts.kernel.ready.run ≡ Some t
    → IsStarted w.parts.modules (module_of w.parts.kernel t)

-- a fault is kept by the module of its thread, which is one of the board's
abbrev pub FaultIsKept : Type 0
FaultIsKept =
    (w : World) (t : ℕ) (cause : Cause) → IsWorld w → IsFaulting w t cause
    → let k = w.parts.kernel in
    let m = module_of k t in
    (m < length w.parts.modules)
    × ((module_at (after w Step).parts.modules m).state
    ≡ Faulted (record { thread = t; cause = cause; pc = (thread k t).hart.pc }))

-- the regions, and where the modules lie and of what they are made, stay; so do the images in their
-- code
abbrev pub RegionsStay : Type 0
RegionsStay =
    (w : World) (e : Event) → IsWorld w
    → let now = (after w e).parts in
    (now.memory.regions ≡ w.parts.memory.regions)
    × (regions_of 0 now.modules ≡ regions_of 0 w.parts.modules)

abbrev pub image_in : Memory → Module → List ℕ
image_in g m = bytes_from g m.placed.code_base (want_of m.preamble).code

abbrev pub images_in : Memory → List Module → List (List ℕ)
images_in g ms = map (image_in g) ms

abbrev pub ImagesStay : Type 0
ImagesStay =
    (w : World) (e : Event) → IsWorld w
    → let now = (after w e).parts in
    images_in now.memory now.modules ≡ images_in w.parts.memory w.parts.modules
