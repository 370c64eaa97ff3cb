-- A row by which a wait begins, or ends with its result where it was promised.
use Rattle.std.proofs.Common.{◌≡◌, ◌≢◌, ℕ, ◌*◌, ◌<◌, ◌≤◌, Bool, true, false, nat_le, nat_lt, List, [], ◌∷◌, ◌++◌, All, length, position, Option, None, Some, IfSome, IsSome, refl, sym, ap, ◌∙◌, subst, ⊎_elim, append-nil, length-append, arith}
use Rattle.std.specs.List.{filter, flat_map, position_or_len, slice_index_or}
use Rattle.std.specs.Option.{option_map, option_map_or, option_to_list}
use Rattle.std.proofs.lemmas.Bool.{cases_lt, cond-false, cond-true, eq-eqb, eqb-true, false≢true, lt-ltb}
use Rattle.std.proofs.lemmas.List.{get_or_append_left, get_or_past, get_or-set_other, get_or-set_same}
use Rattle.std.proofs.lemmas.List.Elements.{All-head, All-tail}
use Rattle.std.proofs.lemmas.List.Sums.{fails_before_first, passes_at_first}
use Rattle.tx_types.specs.End.{WaitEnd}
use Rattle.tx_types.specs.declared.waits.End.{End}
use Rattle.tx_types.specs.declared.waits.End.TheVariants.{Satisfied, Gone}
use Rattle.flat_ram.specs.Laws.{IsOutside, LengthStays}
use Rattle.region_guard.specs.Laws.{BytesOutsideStay, UsedIsInRam}
use Rattle.region_guard.specs.Memory.{Memory, IsSound as IsSoundMemory, may}
use Rattle.region_guard.specs.declared.region.Access.TheVariants.{Store}
use Rattle.suspend_lists.specs.Laws.{has_number}
use Rattle.suspend_lists.specs.Waits.{IsTable, WaitTable, number_of, pending, wait_of}
use Rattle.suspend_lists.specs.declared.wait.Pending.{Pending}
use Rattle.suspend_lists.specs.declared.wait.Wait.{Wait}
use Rattle.kernel_state.specs.Change.{quiet}
use Rattle.kernel_state.specs.Contents.{result_words}
use Rattle.kernel_state.specs.Kernel.{module_of, thread, with_thread}
use Rattle.kernel_state.specs.Range.{Range, WritesAlone, range}
use Rattle.kernel_state.specs.Results.{UnsatisfiedWriteNone, is_satisfied, result_at, result_range, result_ranges}
use Rattle.kernel_state.specs.Room.{RaisesCounts}
use Rattle.kernel_state.specs.Row.{BeginIsKept, IsCaller, IsNoRefusal, KeepsCaller, KeepsTables, MoreIsKept, WaitEndIsKept}
use Rattle.kernel_state.specs.Sound.{IsSound}
use Rattle.kernel_state.specs.Thread.{blank_thread, is_waiting}
use Rattle.kernel_state.specs.WaitLaws.{PromiseIsKept}
use Rattle.kernel_state.specs.Waiting.{answer_of, left_wait, result_of, wait_begun, wait_ended, wanted_at, with_result}
use Rattle.kernel_state.specs.declared.answer.Answer.TheVariants.{Waits}
use Rattle.kernel_state.specs.declared.kernel.Kernel.{Kernel}
use Rattle.kernel_state.specs.declared.thread.Thread.{Thread}
use Rattle.kernel_state.proofs.Ends.{by_answer, wait_end_raises_none, waiter_is_thread}
use Rattle.kernel_state.proofs.Row.{changed_is_kept, none_written, success_is_no_refusal, written_alone}
use Rattle.kernel_state.proofs.Sound.{below_256, thread_of}
use Rattle.kernel_state.proofs.States.{waits_if_some}
use Rattle.kernel_state.proofs.WaitCalls.{begin_calls_waits, wait_end_calls_waits}
use Rattle.kernel_state.proofs.WaitChanges.{begin_raises_one}

-- ends that aren't satisfied have no result
none_satisfied : (ends : List WaitEnd) → All (λ d. is_satisfied d.how ≡ false) ends → filter (λ (d : WaitEnd). is_satisfied d.how) ends ≡ []
none_satisfied [] none = refl
none_satisfied (d ∷ ds) none =
    let so = λ (x : WaitEnd). is_satisfied x.how ≡ false in
    let rest = filter (λ (x : WaitEnd). is_satisfied x.how) ds in
    cond-false (is_satisfied d.how) (d ∷ rest) rest (All-head so d ds none) ∙ none_satisfied ds (All-tail so d ds none)

pub unsatisfied_write_none : UnsatisfiedWriteNone
unsatisfied_write_none k ends none =
    ap (flat_map (λ (d : WaitEnd). option_map_or (result_range k) (position (has_number d.wait) k.waits.waits) [])) (none_satisfied ends none)

-- the one place of a list that passes a test is found by it
first_is : (test : Option Pending → Bool) (os : List (Option Pending)) (t : ℕ) → test None ≡ false → test (slice_index_or os t None) ≡ true
    → ((u : ℕ) → test (slice_index_or os u None) ≡ true → u ≡ t) → position test os ≡ Some t
first_is test os t not_none passes only =
    let n = position_or_len test os in
    let inside : t < length os = ⊎_elim (λ below. below) (λ past. absurd (false≢true (sym not_none ∙ (sym (ap test (get_or_past os t None past)) ∙ passes))))
    (cases_lt t (length os)) in
    let here : n < length os =
    ⊎_elim (λ below. below) (λ (past : length os ≤ n). absurd (false≢true (sym (fails_before_first test os t None (omega arith)) ∙ passes)))
    (cases_lt n (length os)) in
    cond-true (nat_lt n (length os)) (Some n) None (lt-ltb n (length os) here) ∙ ap Some (only n (passes_at_first test os None here))

has_it : (o : Option Pending) (n : ℕ) → option_map (λ p. p.number) o ≡ Some n → has_number n o ≡ true
has_it None n is = cc
has_it (Some p) n is = let same : p.number ≡ n = cc in eq-eqb p.number n same

it_has : (o : Option Pending) (n : ℕ) → has_number n o ≡ true → option_map (λ p. p.number) o ≡ Some n
it_has None n has = absurd (false≢true has)
it_has (Some p) n has = ap Some (eqb-true p.number n has)

-- a wait is found by its number, and so the result of its end
numbered_is_it : (w : WaitTable) (t n : ℕ) → IsTable w → number_of w t ≡ Some n → position (has_number n) w.waits ≡ Some t
numbered_is_it w t n table is =
    first_is (has_number n) w.waits t refl (has_it (pending w t) n is) (λ u has. table.numbers_apart u t n (it_has (pending w u) n has) is)

one_range : (k : Kernel) (t n : ℕ) → IsTable k.waits → number_of k.waits t ≡ Some n
    → result_ranges k (record { wait = n; how = Satisfied } ∷ []) ≡ result_range k t
one_range k t n table is = append-nil _ ∙ ap (λ o. option_map_or (result_range k) o []) (numbered_is_it k.waits t n table is)

abbrev ends_at : Kernel → ℕ → List WaitEnd
ends_at k t = option_to_list (option_map (λ n. record { wait = n; how = Satisfied }) (number_of k.waits t)) ++ []

range_of_end : (k : Kernel) (t : ℕ) (w : Wait) → IsTable k.waits → wait_of k.waits t ≡ Some w → result_ranges k (ends_at k t) ≡ result_at k w
range_of_end k t w table is = by_number (pending k.waits t) refl where
  its : Option Pending → List WaitEnd
  its o = option_to_list (option_map (λ n. record { wait = n; how = Satisfied }) (option_map (λ (p : Pending). p.number) o)) ++ []

  by_number : (o : Option Pending) → pending k.waits t ≡ o → result_ranges k (its o) ≡ result_at k w
  by_number None none = let no : wait_of k.waits t ≡ None = ap (option_map (λ (p : Pending). p.wait)) none in cc
  by_number (Some p) some =
      one_range k t p.number table (ap (option_map (λ (q : Pending). q.number)) some) ∙ ap (λ o. option_map_or (result_at k) o []) is

-- a result is written at its place alone
at_its_place : LengthStays → BytesOutsideStay → UsedIsInRam → (g : Memory) (o : Option ℕ) (m n : ℕ) (value : List ℕ) → IsSoundMemory g
    → length value ≡ n → IfSome o (λ to. may g m Store to (4 * length value) ≡ true)
    → WritesAlone (option_map_or (λ to. range to (4 * n) ∷ []) o []) g (with_result g o value)
at_its_place length_stays outside_stays in_ram g None m n value sound long may_be = none_written [] g
at_its_place length_stays outside_stays in_ram g (Some to) m n [] sound long may_be = none_written (range to (4 * n) ∷ []) g
at_its_place length_stays outside_stays in_ram g (Some to) m n (v ∷ vs) sound long may_be =
    subst (λ (i : ℕ). WritesAlone (range to (4 * i) ∷ []) g (with_result g (Some to) (v ∷ vs))) long
    (written_alone length_stays outside_stays in_ram g m to (v ∷ vs) sound (omega arith) may_be)

-- who writes in some ranges alone writes in these and more alone
All-left : {X : Type 0} (P : X → Type 0) (xs ys : List X) → All P (xs ++ ys) → All P xs
All-left P xs ys all i d below = subst P (get_or_append_left xs ys d i below) (all i d (omega (arith, length-append xs ys, below)))

more_alone : (rs more : List Range) (g now : Memory) → WritesAlone rs g now → WritesAlone (rs ++ more) g now
more_alone rs more g now alone = record {
  regions = alone.regions;
  size = alone.size;
  bytes = λ x outside. alone.bytes x (All-left (λ (r : Range). IsOutside r.base r.size x) rs more outside);
}

pub more_is_kept : MoreIsKept
more_is_kept k g by r o kept = record {
  alone = λ sound. let rs = result_ranges k o.change.ends in
      more_alone rs r g o.change.memory (subst (λ ranges. WritesAlone ranges g o.change.memory) (append-nil rs) (kept.alone sound));
  refusal = kept.refusal;
  caller = kept.caller;
  tables = kept.tables;
}

-- the caller isn't who waits
caller_is_another : (k : Kernel) (by t : ℕ) → IsSound k → IsCaller k by → IsSome (wait_of k.waits t) → by ≢ t
caller_is_another k by t sound caller some same =
    let live = waiter_is_thread [] k t sound some in
    let waits = waits_if_some (thread k t).state (wait_of k.waits t) some (thread_of [] k t sound live).wait in
    false≢true (sym (ap (λ n. nat_le 4 n) caller.state) ∙ subst (λ n. is_waiting (thread k n).state ≡ true) (sym same) waits)

other_hart : (k : Kernel) (by t : ℕ) (now : Thread) → by ≢ t → (thread (with_thread k t now) by).hart ≡ (thread k by).hart
other_hart k by t now other = ap (λ (x : Thread). x.hart) (get_or-set_other k.threads t by now blank_thread other)

end_keeps_caller : (k : Kernel) (g : Memory) (by t : ℕ) (e : End) (value : List ℕ) → IsSound k → IsSome (wait_of k.waits t)
    → KeepsCaller k by (wait_ended k g t e value).kernel
end_keeps_caller k g by t e value sound some caller =
    let other = caller_is_another k by t sound caller some in
    by_answer (left_wait k t e) t e (answer_of (wait_of k.waits t) e) (λ j. (thread j by).hart)
    (λ now. other_hart now by t _ other) (λ now. other_hart now by t _ other) (λ a0. other_hart k by t _ other)

-- what the end of a wait keeps of the tables
not_gone : Satisfied ≢ Gone
not_gone same = cc

at_most_one : (k now : Kernel) → RaisesCounts 0 k now → RaisesCounts 1 k now
at_most_one k now none = record { begun = omega (arith, none.begun); armings = omega (arith, none.armings); ticks = omega (arith, none.ticks) }

end_keeps_tables : (k : Kernel) (g : Memory) (by t : ℕ) (value : List ℕ) → IsSome (wait_of k.waits t)
    → KeepsTables k by (wait_ended k g t Satisfied value)
end_keeps_tables k g by t value some = record {
  slots = record {
    call = None;
    slots = by_answer (left_wait k t Satisfied) t Satisfied (answer_of (wait_of k.waits t) Satisfied) (λ j. j.objects) (λ _. refl) (λ _. refl) (λ _. refl);
    may = tt;
  };
  waits = λ sound caller. wait_end_calls_waits k g t Satisfied value sound some not_gone;
  counts = at_most_one k (wait_ended k g t Satisfied value).kernel (wait_end_raises_none k g t Satisfied value);
}

pub wait_end_is_kept : LengthStays → BytesOutsideStay → UsedIsInRam → PromiseIsKept → WaitEndIsKept
wait_end_is_kept length_stays outside_stays in_ram promise r k g by t w m serves runs is long =
    let some : IsSome (wait_of k.waits t) = subst IsSome (sym is) refl in
    let c = wait_ended k g t Satisfied m in
    record {
      alone = λ sound.
          let to = result_of (wait_of k.waits t) Satisfied in
          let place : to ≡ wanted_at w.asks = ap (λ o. result_of o Satisfied) is in
          let may_be = subst (λ o. IfSome o (λ to. may g (module_of k t) Store to (4 * length m) ≡ true)) place (promise k g t w m serves is long) in
          let alone = at_its_place length_stays outside_stays in_ram g (wanted_at w.asks) (module_of k t) (result_words k.queues w.on) m sound long may_be in
          let here : WritesAlone (result_at k w) g c.memory = subst (λ o. WritesAlone (result_at k w) g (with_result g o m)) (sym place) alone in
          more_alone (result_ranges k c.ends) r g c.memory
          (subst (λ ranges. WritesAlone ranges g c.memory) (sym (range_of_end k t w serves.sound.formed.waits is)) here);
      refusal = λ code same no_success not_lifted. absurd (success_is_no_refusal code same no_success not_lifted);
      caller = end_keeps_caller k g by t Satisfied m serves.sound some;
      tables = end_keeps_tables k g by t m some;
    }

-- a wait begins
waits_is_no_refusal : IsNoRefusal Waits
waits_is_no_refusal c same no_success not_lifted = cc

begin_keeps_caller : (k : Kernel) (by : ℕ) (w : Wait) (ticks : ℕ) → IsSound k → KeepsCaller k by (wait_begun k by w ticks)
begin_keeps_caller k by w ticks sound caller =
    ap (λ (x : Thread). x.hart)
    (get_or-set_same k.threads by _ blank_thread (omega (arith, sound.formed.threads, below_256 k by sound.formed.slots caller.live)))

pub begin_is_kept : BeginIsKept
begin_is_kept r k g by w ticks serves runs placed =
    let now = wait_begun k by w ticks in
    changed_is_kept r k g by (quiet now g) Waits waits_is_no_refusal refl (begin_keeps_caller k by w ticks serves.sound) (record {
      slots = record { call = None; slots = refl; may = tt };
      waits = λ sound caller. begin_calls_waits k g by w ticks sound caller.live (ap (λ n. nat_le 4 n) caller.state) placed;
      counts = begin_raises_one k by w ticks;
    })
