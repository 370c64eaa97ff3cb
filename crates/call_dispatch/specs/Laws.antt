-- What holds of every call of the running thread, whatever it asks for.
use Rattle.std.specs.Prelude.{◌≡◌, ◌≢◌, ℕ, List, All, None, Some}
use Rattle.tx_types.specs.Code.{success, suspend_lifted, feature_not_enabled}
use Rattle.region_guard.specs.Memory.{Memory, IsSound}
use Rattle.kernel_state.specs.Kernel.{thread}
use Rattle.kernel_state.specs.Outcome.{answered}
use Rattle.kernel_state.specs.Range.{WritesAlone}
use Rattle.kernel_state.specs.Registers.{number_asked, with_a0}
use Rattle.kernel_state.specs.Room.{RaisesCounts}
use Rattle.kernel_state.specs.Row.{IsKept, KeepsSlots, Row}
use Rattle.kernel_state.specs.Serves.{Serves}
use Rattle.kernel_state.specs.WaitCalls.{CallsWaits}
use Rattle.kernel_state.specs.declared.answer.Answer.TheVariants.{Code}
use Rattle.kernel_state.specs.declared.kernel.Kernel.{Kernel}
use Rattle.call_dispatch.specs.Ecall.{dispatched}
use Rattle.call_dispatch.specs.Services.{call_ranges, call_result, call_row, row_asked, rows}

-- each row is found by its number, and by no other
abbrev pub NumberNamesItsRow : Type 0
NumberNamesItsRow = All (λ r. row_asked r.number ≡ Some r) rows

abbrev pub RowHasItsNumber : Type 0
RowHasItsNumber = (n : ℕ) (r : Row) → row_asked n ≡ Some r → r.number ≡ n

-- what each row keeps, each call does
abbrev pub CallIsKept : Type 0
CallIsKept =
    (k : Kernel) (g : Memory) (by n : ℕ) (a : List ℕ) → Serves k g → k.ready.run ≡ Some by
    → IsKept (call_result n k g by a) k g by (call_row n k g by a)

-- no byte changes but those of its result, where the caller's module may store there, and those of
-- the results of the waits that it ends
abbrev pub CallWritesResultsAlone : Type 0
CallWritesResultsAlone =
    (k : Kernel) (g : Memory) (by n : ℕ) (a : List ℕ) → Serves k g → k.ready.run ≡ Some by
    → IsSound g
    → WritesAlone (call_ranges n k g by a) g (call_row n k g by a).change.memory

-- a status that is neither SUCCESS nor SUSPEND_LIFTED is a refusal, and comes with no change
abbrev pub RefusalChangesNothing : Type 0
RefusalChangesNothing =
    (k : Kernel) (g : Memory) (by n : ℕ) (a : List ℕ) (c : ℕ) → Serves k g → k.ready.run ≡ Some by
    → (call_row n k g by a).answer ≡ Code c → c ≢ success → c ≢ suspend_lifted
    → call_row n k g by a ≡ answered k g c

-- then the caller's a0 is the refusal, and nothing else changes
abbrev pub RefusedCallChangesA0Alone : Type 0
RefusedCallChangesA0Alone =
    (k : Kernel) (g : Memory) (t c : ℕ) → Serves k g → k.ready.run ≡ Some t
    → (dispatched k g t).answer ≡ Code c → c ≢ success → c ≢ suspend_lifted
    → dispatched k g t ≡ answered (with_a0 k t c) g c

-- so it is where the number has no row, whoever calls
abbrev pub NoRowChangesA0Alone : Type 0
NoRowChangesA0Alone =
    (k : Kernel) (g : Memory) (t : ℕ) → row_asked (number_asked (thread k t).hart) ≡ None
    → dispatched k g t ≡ answered (with_a0 k t feature_not_enabled) g feature_not_enabled

-- the slots change by one call of their table at most, made for the caller's module
abbrev pub CallChangesSlotsOnce : Type 0
CallChangesSlotsOnce =
    (k : Kernel) (g : Memory) (t : ℕ) → Serves k g → k.ready.run ≡ Some t
    → KeepsSlots k t (dispatched k g t).change.kernel

-- a call begins one wait at most and arms one timeout at most, and no tick comes with it
abbrev pub CallRaisesCountsByOne : Type 0
CallRaisesCountsByOne =
    (k : Kernel) (g : Memory) (t : ℕ) → Serves k g → k.ready.run ≡ Some t
    → RaisesCounts 1 k (dispatched k g t).change.kernel

-- waits change by calls of their table alone, whatever is asked for
abbrev pub CallCallsWaits : Type 0
CallCallsWaits =
    (k : Kernel) (g : Memory) (t : ℕ) → Serves k g → k.ready.run ≡ Some t
    → CallsWaits k (dispatched k g t).change
