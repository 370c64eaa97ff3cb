-- The parts of a row: each keeps that a row writes in its ranges alone, that a refusal comes with no change, that the caller
-- has its registers afterwards, and what it keeps of the tables.
use Rattle.std.proofs.Common.{◌≡◌, ℕ, ◌+◌, ◌*◌, ◌<◌, ◌≤◌, true, List, [], ◌∷◌, length, Option, None, Some, Ok, Err, refl, sym, ap, ◌∙◌, subst, ⊎_elim, inl, inr, arith}
use Rattle.std.proofs.lemmas.Bool.{cond-true, cond_both, eqb-true}
use Rattle.std.proofs.lemmas.List.Elements.{All-head}
use Rattle.machine_words.specs.Number.{low_bytes}
use Rattle.tx_types.specs.Code.{success, ptr_error, invalid_memory}
use Rattle.tx_types.specs.State.{state_number}
use Rattle.call_arguments.specs.Pointers.{pointer_refusal}
use Rattle.call_arguments.specs.Words.{with_word, with_words}
use Rattle.flat_ram.specs.Laws.{IsOutside, LengthStays}
use Rattle.region_guard.specs.Laws.{BytesOutsideStay, UsedIsInRam}
use Rattle.region_guard.specs.Memory.{Memory, IsSound as IsSoundMemory, byte, may, ram_base}
use Rattle.region_guard.specs.declared.region.Access.TheVariants.{Store}
use Rattle.soft_timers.specs.Timers.{TimerTable}
use Rattle.suspend_lists.specs.Waits.{WaitTable}
use Rattle.kernel_state.specs.Change.{quiet}
use Rattle.kernel_state.specs.Kernel.{thread}
use Rattle.kernel_state.specs.Laws.{RunningIsReady, ReadyIsThread}
use Rattle.kernel_state.specs.Outcome.{answered}
use Rattle.kernel_state.specs.Range.{Range, WritesAlone, allowed, range}
use Rattle.kernel_state.specs.Results.{change_ranges}
use Rattle.kernel_state.specs.Row.{IsKept, KeepsTables, IsNoRefusal, RunningCalls, LeftKeepsTables, AnsweredIsKept, ChangedIsKept, DoneIsKept, WrittenIsKept, UnlessIsKept, FoundIsKept, GivenIsKept, EitherIsKept}
use Rattle.kernel_state.specs.Sound.{IsThread}
use Rattle.kernel_state.specs.declared.answer.Answer.TheVariants.{Code}
use Rattle.kernel_state.specs.declared.kernel.Kernel.{Kernel}
use Rattle.kernel_state.proofs.Sound.{thread_of}
use Rattle.kernel_state.proofs.WaitCalls.{left_calls_waits}

pub running_calls : RunningIsReady → ReadyIsThread → RunningCalls
running_calls is_ready_then is_thread_then k by sound runs =
    let ready = is_ready_then k by sound runs in
    let live = is_thread_then k by sound ready in
    let right : IsThread k by = thread_of [] k by sound live in
    record { live = live; state = eqb-true (state_number (thread k by).state) 0 (sym right.ready ∙ ready) }

pub success_is_no_refusal : IsNoRefusal (Code success)
success_is_no_refusal c same no_success not_lifted = no_success (let is_success : c ≡ success = cc in is_success)

pub none_written : (r : List Range) (g : Memory) → WritesAlone r g g
none_written r g = record { regions = refl; size = refl; bytes = λ x outside. refl }

-- a change that leaves waits and timeouts
pub left_keeps_tables : LeftKeepsTables
left_keeps_tables k by c left slots =
    let begun = ap (λ (w : WaitTable). w.totals.begun) left.waits in
    let armings = ap (λ (h : TimerTable). h.armings) left.wheel in
    let ticks = ap (λ (h : TimerTable). h.ticks) left.wheel in
    record {
      slots = slots;
      waits = λ sound caller. left_calls_waits k c left;
      counts = record { begun = omega (arith, begun); armings = omega (arith, armings); ticks = omega (arith, ticks) };
    }

tables_stay : (k : Kernel) (g : Memory) (by : ℕ) → KeepsTables k by (quiet k g)
tables_stay k g by =
    left_keeps_tables k by (quiet k g) (record { waits = refl; wheel = refl; ends = refl }) (record { call = None; slots = refl; may = tt })

pub answered_is_kept : AnsweredIsKept
answered_is_kept r k g by c = record {
  alone = λ sound. none_written r g;
  refusal = λ other same no_success not_lifted. let is_other : c ≡ other = cc in ap (answered k g) is_other;
  caller = λ calls. refl;
  tables = tables_stay k g by;
}

pub changed_is_kept : ChangedIsKept
changed_is_kept r k g by now answer no_refusal same keeps tables = record {
  alone = λ sound. let ranges = change_ranges k now.ends r in subst (WritesAlone ranges g) (sym same) (none_written ranges g);
  refusal = λ c is_c no_success not_lifted. absurd (no_refusal c is_c no_success not_lifted);
  caller = keeps;
  tables = tables;
}

pub done_is_kept : DoneIsKept
done_is_kept r k g by now same keeps tables = changed_is_kept r k g by now (Code success) success_is_no_refusal same keeps tables

-- words that are written change no byte outside of them
record IsWrittenAt (x n : ℕ) (g now : Memory) : Type 0 where
  regions : now.regions ≡ g.regions
  size : length now.bytes ≡ length g.bytes
  bytes : (y : ℕ) → IsOutside x n y → byte now y ≡ byte g y

words_written : LengthStays → BytesOutsideStay → (ws : List ℕ) (g : Memory) (x : ℕ) → ram_base ≤ x → IsWrittenAt x (4 * length ws) g (with_words g x ws)
words_written length_stays outside_stays [] g x in_ram = record { regions = refl; size = refl; bytes = λ y outside. refl }
words_written length_stays outside_stays (w ∷ ws) g x in_ram =
    let one = with_word g x w in
    let rest = words_written length_stays outside_stays ws one (x + 4) (omega arith) in
    record {
      regions = rest.regions;
      size = rest.size ∙ length_stays g.bytes (low_bytes 4 w) _;
      bytes = λ y outside.
          rest.bytes y (⊎_elim (λ before. inl (omega arith)) (λ after. inr (omega arith)) outside)
          ∙ outside_stays g (low_bytes 4 w) x y in_ram (⊎_elim (λ before. inl before) (λ after. inr (omega arith)) outside);
    }

-- a pointer that isn't refused may be used
pointer_may : (g : Memory) (m x n : ℕ) → pointer_refusal g m Store x n ≡ None → may g m Store x n ≡ true
pointer_may g m x n free =
    cond_both _ (Some ptr_error) _ (λ (o : Option ℕ). o ≡ None → may g m Store x n ≡ true)
    (λ bad same. cc)
    (λ good. cond_both (may g m Store x n) None (Some invalid_memory) (λ (o : Option ℕ). o ≡ None → may g m Store x n ≡ true) (λ can same. can) (λ no same. cc))
    free

-- words that are written where they may be change nothing else
pub written_alone : LengthStays → BytesOutsideStay → UsedIsInRam → (g : Memory) (m x : ℕ) (ws : List ℕ) → IsSoundMemory g → 0 < length ws
    → may g m Store x (4 * length ws) ≡ true → WritesAlone (range x (4 * length ws) ∷ []) g (with_words g x ws)
written_alone length_stays outside_stays in_ram g m x ws sound some can =
    let n = 4 * length ws in
    let written = words_written length_stays outside_stays ws g x (in_ram g m Store x n sound (omega arith) can).from_base in
    record {
      regions = written.regions;
      size = written.size;
      bytes = λ y outside. written.bytes y (All-head (λ (r : Range). IsOutside r.base r.size y) (range x n) [] outside);
    }

allowed_is_written_alone : LengthStays → BytesOutsideStay → UsedIsInRam → (g : Memory) (m x : ℕ) (ws : List ℕ) → IsSoundMemory g → 0 < length ws
    → pointer_refusal g m Store x (4 * length ws) ≡ None → WritesAlone (allowed g m (range x (4 * length ws) ∷ [])) g (with_words g x ws)
allowed_is_written_alone length_stays outside_stays in_ram g m x ws sound some free =
    let n = 4 * length ws in
    let can = pointer_may g m x n free in
    subst (λ r. WritesAlone r g (with_words g x ws)) (sym (cond-true (may g m Store x n) (range x n ∷ []) [] can))
    (written_alone length_stays outside_stays in_ram g m x ws sound some can)

pub written_is_kept : LengthStays → BytesOutsideStay → UsedIsInRam → WrittenIsKept
written_is_kept length_stays outside_stays in_ram k g by now m x ws some free keeps tables = record {
  alone = λ sound. allowed_is_written_alone length_stays outside_stays in_ram g m x ws sound some free;
  refusal = λ c same no_success not_lifted. absurd (success_is_no_refusal c same no_success not_lifted);
  caller = keeps;
  tables = tables;
}

pub unless_is_kept : UnlessIsKept
unless_is_kept r k g by None change goes_on = goes_on refl
unless_is_kept r k g by (Some c) change goes_on = answered_is_kept r k g by c

pub found_is_kept : (A : Type 0) → FoundIsKept A
found_is_kept A r k g by c None change goes_on = answered_is_kept r k g by c
found_is_kept A r k g by c (Some x) change goes_on = goes_on x refl

pub given_is_kept : (A : Type 0) → GivenIsKept A
given_is_kept A r k g by (Err c) change goes_on = answered_is_kept r k g by c
given_is_kept A r k g by (Ok x) change goes_on = goes_on x

pub either_is_kept : EitherIsKept
either_is_kept r k g by b x y if_so if_not = cond_both b x y (IsKept r k g by) (λ can. if_so) (λ no. if_not)
