-- Used slots stay with started modules by every event; so the running thread's module is started, and keeps a fault of it.
use Rattle.std.proofs.Common.{◌≡◌, ℕ, ◌<◌, ◌==◌, true, List, length, Option, None, Some, position, refl, sym, ap, ◌∙◌, subst, ⊎_elim}
use Rattle.std.proofs.lemmas.Bool.{and_parts, cases_lt, eqb-true}
use Rattle.std.proofs.lemmas.List.{get_or-set_same, get_or_past}
use Rattle.tx_types.specs.Code.{thread_error}
use Rattle.tx_types.specs.declared.kind.Kind.TheVariants.{Thread as ThreadKind}
use Rattle.board_file.specs.declared.board.Action.{Action}
use Rattle.board_file.specs.declared.board.Action.TheVariants.{Resume, Tick}
use Rattle.event_log.specs.Events.{Step, Irq}
use Rattle.call_dispatch.specs.Laws.{CallChangesSlotsOnce}
use Rattle.kernel_state.specs.Kernel.{is_thread, module_of, thread}
use Rattle.kernel_state.specs.Laws.{OneHartChanges, ReadyIsThread, RunningIsReady}
use Rattle.kernel_state.specs.ObjectLaws.{RemovedChangesOne}
use Rattle.kernel_state.specs.Sound.{IsEntry, IsSound, IsThread}
use Rattle.kernel_state.specs.declared.kernel.Kernel.{Kernel}
use Rattle.kernel_state.specs.declared.thread.Thread.{Thread}
use Rattle.module_manager.specs.Laws.{HaltEndsGrants, HaltEndsSlots}
use Rattle.module_manager.specs.Modules.{module_at}
use Rattle.module_manager.specs.declared.modules.Module.{Module}
use Rattle.module_manager.specs.declared.modules.ModuleState.TheVariants.{Faulted}
use Rattle.object_grants.specs.Slot.{has_name, is_in, is_kind, slot_state_number}
use Rattle.object_grants.specs.Table.{slot}
use Rattle.object_grants.specs.declared.slot.SlotState.TheVariants.{Live}
use Rattle.rv_core.specs.Execute.{Effect, Completes, Stores, Calls, Faults}
use Rattle.thread_calls.specs.ThreadRows.{resumption}
use Rattle.board_core.specs.Action.{acted, clock_advanced, device_of, resumed_by_name}
use Rattle.board_core.specs.Laws.{FaultIsKept, IsWorld, OwnersStay, RunnerIsStarted}
use Rattle.board_core.specs.Owners.{AreOwned, IsStarted}
use Rattle.board_core.specs.Step.{after_effect, after_fault, next_effect, stepped, stepped_by, with_hart}
use Rattle.board_core.specs.declared.parts.Parts.{Parts}
use Rattle.board_core.specs.World.{World}
use Rattle.board_core.proofs.OwnedCalls.{Owned, dispatched_owned, found_owned, resumption_owned}
use Rattle.board_core.proofs.OwnedHalt.{fault_owned}
use Rattle.board_core.proofs.OwnedSlots.{owned_at}
use Rattle.board_core.proofs.Running.{running_below, serves-with_hart, stepped_is, thread-with_hart}
use Rattle.board_core.proofs.Ticking.{tick_spares}

-- the laws of the layers below
pub record Lower : Type 0 where
  pub is_ready : RunningIsReady
  pub is_thread : ReadyIsThread
  pub hart : OneHartChanges
  pub slots : CallChangesSlotsOnce
  pub removed : RemovedChangesOne
  pub no_slots : HaltEndsSlots
  pub no_grants : HaltEndsGrants

-- a thread's slot is its module's, which is started
thread_started : (ms : List Module) (k : Kernel) (t : ℕ) → IsSound k → Owned ms k → t < 256 → is_thread k t ≡ true → IsStarted ms (module_of k t)
thread_started ms k t sound owned below is =
    let s = slot k.objects t in
    let live = (and_parts (is_in Live s) (is_kind ThreadKind s) is).0 in
    let used = ap (λ n. n == 0) (eqb-true (slot_state_number s.state) 2 live) in
    let entry : IsThread k t = subst (IsEntry k t) is (sound.formed.entries t below) in
    subst (IsStarted ms) (sym entry.owner) ((owned_at ms k.objects t owned).owner used)

pub runner_is_started : Lower → RunnerIsStarted
runner_is_started lower w t world runs =
    thread_started w.parts.modules w.parts.kernel t world.serves.sound world.owned
    (running_below lower.is_ready lower.is_thread w.parts.kernel t world.serves.sound runs)
    (lower.is_thread w.parts.kernel t world.serves.sound (lower.is_ready w.parts.kernel t world.serves.sound runs))

-- a step
abbrev OwnedParts : Parts → Type 0
OwnedParts p = AreOwned p.modules p.kernel.objects

effect_owned : Lower → (w : World) (t : ℕ) (e : Effect) → IsWorld w → w.parts.kernel.ready.run ≡ Some t → OwnedParts (after_effect w.parts t e)
unfolding after_fault
effect_owned lower w t (Completes h) world runs = world.owned
effect_owned lower w t (Stores a n value h) world runs = world.owned
effect_owned lower w t (Calls h) world runs =
    let below = running_below lower.is_ready lower.is_thread w.parts.kernel t world.serves.sound runs in
    let same : module_of (with_hart w.parts.kernel t h) t ≡ module_of w.parts.kernel t =
    ap (λ (u : Thread). u.module) (thread-with_hart w.parts.kernel t h world.serves.sound below) in
    dispatched_owned lower.slots w.parts.modules (with_hart w.parts.kernel t h) w.parts.memory t
    (serves-with_hart lower.hart w.parts.kernel w.parts.memory t h world.serves below) runs world.owned
    (subst (IsStarted w.parts.modules) (sym same) (runner_is_started lower w t world runs))
effect_owned lower w t (Faults cause) world runs =
    fault_owned lower.removed lower.no_slots lower.no_grants w.parts.modules w.parts.kernel w.parts.memory
    (module_of w.parts.kernel t) _ world.serves.sound world.owned

step_owned : Lower → (w : World) (run : Option ℕ) → IsWorld w → w.parts.kernel.ready.run ≡ run → OwnedParts (stepped_by w.parts run)
step_owned lower w None world runs = world.owned
step_owned lower w (Some t) world runs = effect_owned lower w t (next_effect w.parts t) world runs

-- an interrupt
acted_owned : (p : Parts) (action : Action) (target : List ℕ) (word : ℕ) → OwnedParts p → OwnedParts (acted p action target word).parts
unfolding clock_advanced resumed_by_name
acted_owned p Tick target word before = subst (AreOwned p.modules) (sym (tick_spares p.kernel p.memory).objects) before
acted_owned p Resume target word before =
    let k = p.kernel in
    found_owned p.modules k p.memory thread_error (position (has_name ThreadKind target) k.objects) (resumption k p.memory) before
    (λ t _. resumption_owned p.modules k p.memory t before)
acted_owned p _ target word before = before

pub owners_stay : Lower → OwnersStay
unfolding stepped
owners_stay lower w Step world = step_owned lower w w.parts.kernel.ready.run world refl
owners_stay lower w (Irq d word) world = acted_owned w.parts (device_of w.board d).action (device_of w.board d).target word world.owned

-- a module that is started is one of the table
started_inside : (ms : List Module) (m : ℕ) → IsStarted ms m → m < length ms
started_inside ms m started =
    ⊎_elim (λ below. below) (λ past. let none = sym (ap (λ (r : Module). r.state) (get_or_past ms m _ past)) ∙ started in cc) (cases_lt m (length ms))

pub fault_is_kept : Lower → FaultIsKept
unfolding after_fault
fault_is_kept lower w t cause world faults =
    let m = module_of w.parts.kernel t in
    let inside = started_inside w.parts.modules m (runner_is_started lower w t world faults.0) in (
      inside,
      subst (λ (p : Parts). (module_at p.modules m).state ≡ Faulted (record { thread = t; cause = cause; pc = (thread w.parts.kernel t).hart.pc }))
          (sym (stepped_is w.parts t (Faults cause) faults.0 faults.1)) (ap (λ (r : Module). r.state) (get_or-set_same w.parts.modules m _ _ inside)),
    )
