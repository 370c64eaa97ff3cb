-- What a service changes of the kernel's tables: slots by one call at most, waits by calls of their table, and counts by
-- one at most.
use Rattle.std.proofs.Common.{◌≡◌, ◌≢◌, ◌⊎◌, ℕ, ◌==◌, true, nat_le, List, [], Some, refl, ap, arith}
use Rattle.std.proofs.lemmas.Bool.{cond_both}
use Rattle.tx_types.specs.declared.kind.Kind.TheVariants.{Thread}
use Rattle.tx_types.specs.declared.state.State.{State}
use Rattle.tx_types.specs.declared.state.State.TheVariants.{Ready, Completed, Terminated, Suspended}
use Rattle.tx_types.specs.declared.waits.End.TheVariants.{Aborted, Gone}
use Rattle.region_guard.specs.Memory.{Memory}
use Rattle.kernel_state.specs.Change.{quiet}
use Rattle.kernel_state.specs.Kernel.{is_thread, placed, thread}
use Rattle.kernel_state.specs.Laws.{WaiterHasWait}
use Rattle.kernel_state.specs.Readying.{made_unready}
use Rattle.kernel_state.specs.Room.{RaisesCounts}
use Rattle.kernel_state.specs.Row.{IsCaller, KeepsSlots, KeepsTables, LeftKeepsTables}
use Rattle.kernel_state.specs.Tests.{reserved}
use Rattle.kernel_state.specs.Thread.{is_state, is_waiting}
use Rattle.kernel_state.specs.ThreadChanges.{ended, started, suspended, with_held}
use Rattle.kernel_state.specs.WaitCalls.{LeavesWaits}
use Rattle.kernel_state.specs.WaitLaws.{BeginCallsWaits, BeginRaisesOne, EndCallsWaits, EndRaisesNone, WaitEndCallsWaits, WaitEndRaisesNone}
use Rattle.kernel_state.specs.Waiting.{wait_begun, wait_ended}
use Rattle.kernel_state.specs.declared.kernel.Kernel.{Kernel}
use Rattle.thread_calls.specs.Create.{created, spec_of}
use Rattle.thread_calls.specs.ThreadRows.{sleep_of}
use Rattle.thread_calls.specs.declared.create.ThreadBlock.{ThreadBlock}
use Rattle.thread_calls.proofs.Slots.{aborted_slots, created_slots, ended_slots, slots_stay, suspended_slots}

-- the laws of the layer below
pub record TableLaws : Type 0 where
  pub left : LeftKeepsTables
  pub begins : BeginCallsWaits
  pub wait_ends : WaitEndCallsWaits
  pub thread_ends : EndCallsWaits
  pub begin_counts : BeginRaisesOne
  pub wait_end_counts : WaitEndRaisesNone
  pub thread_end_counts : EndRaisesNone
  pub waiter : WaiterHasWait

-- a change that leaves waits and timeouts, and one that leaves slots too
pub slots_alone : TableLaws → (k now : Kernel) (g : Memory) (by : ℕ) → now.waits ≡ k.waits → now.wheel ≡ k.wheel → KeepsSlots k by now
    → KeepsTables k by (quiet now g)
slots_alone laws k now g by waits wheel slots = laws.left k by (quiet now g) (record { waits = waits; wheel = wheel; ends = refl }) slots

pub tables_stay : TableLaws → (k now : Kernel) (g : Memory) (by : ℕ) → now.waits ≡ k.waits → now.wheel ≡ k.wheel → now.objects ≡ k.objects
    → KeepsTables k by (quiet now g)
tables_stay laws k now g by waits wheel objects = slots_alone laws k now g by waits wheel (slots_stay k now by objects)

by_suspension : (k : Kernel) (g : Memory) (t : ℕ) (P : Kernel → Type 0) → P (made_unready k t Suspended) → P (with_held k t true) → P k
    → P (suspended k g t).kernel
by_suspension k g t P unready held same =
    cond_both (is_state (thread k t).state Ready) (made_unready k t Suspended) _ P (λ _. unready)
    (λ _. cond_both (is_waiting (thread k t).state) (with_held k t true) k P (λ _. held) (λ _. same))

pub suspended_tables : TableLaws → (k : Kernel) (g : Memory) (by t : ℕ) → KeepsTables k by (suspended k g t)
suspended_tables laws k g by t =
    laws.left k by (suspended k g t) (record {
      waits = by_suspension k g t (λ j. j.waits ≡ k.waits) refl refl refl;
      wheel = by_suspension k g t (λ j. j.wheel ≡ k.wheel) refl refl refl;
      ends = refl;
    }) (suspended_slots k g by t)

created_leaves : (k : Kernel) (g : Memory) (by o : ℕ) (name : List ℕ) (b : ThreadBlock) → LeavesWaits k (created k g by o name b)
unfolding created
created_leaves k g by o name b =
    let now = placed k o name (spec_of k by b) in
    cond_both (b.auto == 1) (started now g o) (quiet now g) (LeavesWaits k)
    (λ _. record { waits = refl; wheel = refl; ends = refl }) (λ _. record { waits = refl; wheel = refl; ends = refl })

pub created_tables : TableLaws → (k : Kernel) (g : Memory) (by r o : ℕ) (name : List ℕ) (b : ThreadBlock) → reserved k by r Thread ≡ Some o
    → KeepsTables k by (created k g by o name b)
created_tables laws k g by r o name b is = laws.left k by (created k g by o name b) (created_leaves k g by o name b) (created_slots k g by r o name b is)

-- counts that stay
at_most_one : (k now : Kernel) → RaisesCounts 0 k now → RaisesCounts 1 k now
at_most_one k now none = record { begun = omega (arith, none.begun); armings = omega (arith, none.armings); ticks = omega (arith, none.ticks) }

-- a thread ends, a wait is aborted, and the caller sleeps
pub ended_tables : TableLaws → (k : Kernel) (g : Memory) (by t : ℕ) (state : State) → (state ≡ Completed) ⊎ (state ≡ Terminated)
    → (IsCaller k by → is_thread k t ≡ true) → KeepsTables k by (ended k g t state)
ended_tables laws k g by t state over live = record {
  slots = ended_slots k g by t state;
  waits = λ sound caller. laws.thread_ends k g t state sound (live caller) over;
  counts = at_most_one k (ended k g t state).kernel (laws.thread_end_counts k g t state);
}

aborted_not_gone : Aborted ≢ Gone
aborted_not_gone same = cc

pub aborted_tables : TableLaws → (k : Kernel) (g : Memory) (by t : ℕ) → is_thread k t ≡ true → is_waiting (thread k t).state ≡ true
    → KeepsTables k by (wait_ended k g t Aborted [])
aborted_tables laws k g by t live waits = record {
  slots = aborted_slots k g by t;
  waits = λ sound caller. laws.wait_ends k g t Aborted [] sound (laws.waiter k t sound live waits) aborted_not_gone;
  counts = at_most_one k (wait_ended k g t Aborted []).kernel (laws.wait_end_counts k g t Aborted []);
}

pub slept_tables : TableLaws → (k : Kernel) (g : Memory) (by ticks : ℕ) → KeepsTables k by (quiet (wait_begun k by (sleep_of k by) ticks) g)
slept_tables laws k g by ticks = record {
  slots = slots_stay k (wait_begun k by (sleep_of k by) ticks) by refl;
  waits = λ sound caller. laws.begins k g by (sleep_of k by) ticks sound caller.live (ap (λ n. nat_le 4 n) caller.state) tt;
  counts = laws.begin_counts k by (sleep_of k by) ticks;
}
