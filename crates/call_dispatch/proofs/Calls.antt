-- A call writes results alone; it changes no register of its caller but a0, and one that is refused nothing else; slots and
-- waits it changes by calls of their tables.
use Rattle.std.proofs.Common.{◌≡◌, ℕ, ◌==◌, List, [], Option, None, Some, All, ap, ◌∙◌, refl, subst, arith}
use Rattle.std.proofs.lemmas.List.Elements.{All-weaker}
use Rattle.tx_types.specs.Code.{feature_not_enabled}
use Rattle.rv_core.specs.Hart.{HartState}
use Rattle.region_guard.specs.Memory.{Memory}
use Rattle.kernel_state.specs.Kernel.{module_of, thread}
use Rattle.kernel_state.specs.Outcome.{Outcome, answering}
use Rattle.kernel_state.specs.Range.{allowed}
use Rattle.kernel_state.specs.Row.{AnsweredIsKept, IsKept, IsRow, Row, RunningCalls, called, row_of}
use Rattle.kernel_state.specs.Registers.{arguments, number_asked}
use Rattle.kernel_state.specs.Serves.{Serves}
use Rattle.kernel_state.specs.Thread.{is_over}
use Rattle.kernel_state.specs.WaitCalls.{EndsWithItsThread}
use Rattle.kernel_state.specs.declared.kernel.Kernel.{Kernel}
use Rattle.call_dispatch.specs.Caller.{CallChangesA0Alone, ChangesA0Alone}
use Rattle.call_dispatch.specs.Ecall.{dispatched, with_answer}
use Rattle.call_dispatch.specs.Laws.{CallIsKept, CallWritesResultsAlone, RefusalChangesNothing, RefusedCallChangesA0Alone, NoRowChangesA0Alone}
use Rattle.call_dispatch.specs.Laws.{CallChangesSlotsOnce, CallRaisesCountsByOne, CallCallsWaits}
use Rattle.call_dispatch.specs.Services.{call_row, row_asked, row_writes, rows}
use Rattle.call_dispatch.proofs.Answered.{answer_is_put, answer-state, threads_alone}
use Rattle.call_dispatch.proofs.Numbers.{find_holds}

-- what each row keeps, each call does
called_is_kept : AnsweredIsKept → (o : Option Row) → ((r : Row) → o ≡ Some r → IsRow r) → (k : Kernel) (g : Memory) (by : ℕ) (a : List ℕ)
    → Serves k g → k.ready.run ≡ Some by → IsKept (allowed g (module_of k by) (row_writes o k by a)) k g by (called o k g by a)
called_is_kept answered None is_row k g by a serves runs = answered [] k g by feature_not_enabled
called_is_kept answered (Some r) is_row k g by a serves runs = is_row r refl k g by a serves runs

pub call_is_kept : AnsweredIsKept → All IsRow rows → CallIsKept
unfolding call_row row_asked
call_is_kept answered each k g by n a serves runs =
    called_is_kept answered (row_of n rows) (λ r found. find_holds IsRow (λ x. x.number == n) rows r each found) k g by a serves runs

pub call_writes_results_alone : CallIsKept → CallWritesResultsAlone
call_writes_results_alone kept k g by n a serves runs sound = (kept k g by n a serves runs).alone sound

pub refusal_changes_nothing : CallIsKept → RefusalChangesNothing
refusal_changes_nothing kept k g by n a c serves runs same no_success not_lifted =
    (kept k g by n a serves runs).refusal c same no_success not_lifted

-- an outcome with its answer in a thread's a0
abbrev answer_put : ℕ → Outcome → Outcome
answer_put t o = answering (record o.change { kernel = with_answer o.change.kernel t o.answer }) o.answer

pub refused_call_changes_a0_alone : CallIsKept → RefusedCallChangesA0Alone
unfolding dispatched with_answer
refused_call_changes_a0_alone kept k g t c serves runs same no_success not_lifted =
    let h = (thread k t).hart in
    ap (answer_put t) (refusal_changes_nothing kept k g t (number_asked h) (arguments h) c serves runs same no_success not_lifted)

pub no_row_changes_a0_alone : NoRowChangesA0Alone
unfolding dispatched with_answer call_row
no_row_changes_a0_alone k g t none =
    let h = (thread k t).hart in
    ap (λ (o : Option Row). answer_put t (called o k g t (arguments h))) none

pub call_changes_a0_alone : CallIsKept → RunningCalls → CallChangesA0Alone
unfolding dispatched
call_changes_a0_alone kept calls k g t serves runs =
    let h = (thread k t).hart in
    let o = call_row (number_asked h) k g t (arguments h) in
    let keeps = (kept k g t (number_asked h) (arguments h) serves runs).caller (calls k t serves.sound runs) in
    subst (λ (was : HartState). ChangesA0Alone was (thread (with_answer o.change.kernel t o.answer) t).hart) keeps (answer_is_put o.change.kernel t o.answer)

pub call_changes_slots_once : CallIsKept → CallChangesSlotsOnce
unfolding dispatched
call_changes_slots_once kept k g t serves runs =
    let h = (thread k t).hart in
    let o = call_row (number_asked h) k g t (arguments h) in
    let slots = (kept k g t (number_asked h) (arguments h) serves runs).tables.slots in
    record { call = slots.call; slots = ap (λ (x : Kernel). x.objects) (threads_alone o.change.kernel t o.answer) ∙ slots.slots; may = slots.may }

pub call_raises_counts_by_one : CallIsKept → CallRaisesCountsByOne
unfolding dispatched
call_raises_counts_by_one kept k g t serves runs =
    let h = (thread k t).hart in
    let o = call_row (number_asked h) k g t (arguments h) in
    let counts = (kept k g t (number_asked h) (arguments h) serves runs).tables.counts in
    let left = threads_alone o.change.kernel t o.answer in
    let begun = ap (λ (x : Kernel). x.waits.totals.begun) left in
    let armings = ap (λ (x : Kernel). x.wheel.armings) left in
    let ticks = ap (λ (x : Kernel). x.wheel.ticks) left in
    record { begun = omega (arith, begun, counts.begun); armings = omega (arith, armings, counts.armings); ticks = omega (arith, ticks, counts.ticks) }

pub call_calls_waits : CallIsKept → RunningCalls → CallCallsWaits
unfolding dispatched
call_calls_waits kept calls k g t serves runs =
    let h = (thread k t).hart in
    let o = call_row (number_asked h) k g t (arguments h) in
    let now = with_answer o.change.kernel t o.answer in
    let waits = (kept k g t (number_asked h) (arguments h) serves runs).tables.waits serves.sound (calls k t serves.sound runs) in
    record {
      calls = waits.calls;
      waits = ap (λ (x : Kernel). x.waits) (threads_alone o.change.kernel t o.answer) ∙ waits.waits;
      may = waits.may;
      ends = waits.ends;
      gone = All-weaker (EndsWithItsThread k o.change.kernel) (EndsWithItsThread k now) (λ x its_thread gone.
          let at = its_thread gone in
          (at.0, at.1, at.2, ap is_over (answer-state o.change.kernel t at.0 o.answer) ∙ at.3)) o.change.ends waits.gone;
    }
