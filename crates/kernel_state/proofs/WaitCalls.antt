-- A change treats the waits by calls of their table, each of which may be made in its turn.
use Rattle.std.proofs.Common.{◌≡◌, ◌≢◌, ◌⊎◌, ℕ, ◌<◌, ◌≤◌, true, false, List, [], ◌∷◌, ◌++◌, All, length, Option, None, Some, refl, sym, ap, ◌∙◌, subst, ⊎_elim}
use Rattle.std.proofs.Common.{append-nil, append_assoc, arith}
use Rattle.std.specs.List.{slice_index_or}
use Rattle.std.specs.Option.{option_map, option_to_list}
use Rattle.std.proofs.lemmas.Bool.{cases_eq, cases_lt, cond_both, false≢true, false_from_ne_true}
use Rattle.std.proofs.lemmas.List.{get_or-set_same, get_or-set_other, set_past}
use Rattle.std.proofs.lemmas.List.Elements.{All-append, All-cons, All-nil, All-same, All-weaker}
use Rattle.std.proofs.lemmas.Option.{none-some}
use Rattle.tx_types.specs.End.{WaitEnd}
use Rattle.tx_types.specs.declared.state.State.{State}
use Rattle.tx_types.specs.declared.state.State.TheVariants.{Completed, Terminated}
use Rattle.tx_types.specs.declared.waits.End.{End}
use Rattle.tx_types.specs.declared.waits.End.TheVariants.{TimedOut, Gone}
use Rattle.region_guard.specs.Memory.{Memory}
use Rattle.soft_timers.specs.Laws.{TicksKeepTheWheel}
use Rattle.soft_timers.specs.declared.due.Armed.{Armed}
use Rattle.suspend_lists.specs.Laws.{Begin, Call, Finish, MayCallAll, all_called, all_over, called, over_by as calls_over}
use Rattle.suspend_lists.specs.Waits.{WaitTable, ended as ended_wait, number_of, pending, wait_of}
use Rattle.suspend_lists.specs.declared.wait.Pending.{Pending}
use Rattle.kernel_state.specs.Change.{Change, followed, quiet}
use Rattle.kernel_state.specs.Kernel.{thread, with_thread}
use Rattle.kernel_state.specs.Sound.{IsSound}
use Rattle.kernel_state.specs.Thread.{blank_thread, is_over, is_waiting}
use Rattle.kernel_state.specs.ThreadChanges.{ended, ended_now, over_by}
use Rattle.kernel_state.specs.Ticks.{advanced, tick_counted, turn, turns}
use Rattle.kernel_state.specs.WaitCalls.{CallsWaits, EndsWithItsThread}
use Rattle.kernel_state.specs.WaitLaws.{BeginCallsWaits, EndCallsWaits, EndOnlyEnds, FollowedCallsWaits, LeftCallsWaits, TickCallsWaits, WaitEndCallsWaits}
use Rattle.kernel_state.specs.WaitLaws.{WaitEndKeepsSound}
use Rattle.kernel_state.specs.Waiting.{left_wait, wait_begun, wait_ended}
use Rattle.kernel_state.specs.declared.kernel.Kernel.{Kernel}
use Rattle.kernel_state.specs.declared.thread.Thread.{Thread}
use Rattle.kernel_state.proofs.Ends.{by_end, is_pending, wait_ended-waits}
use Rattle.kernel_state.proofs.Sound.{below_256, thread_of}
use Rattle.kernel_state.proofs.States.{none_if_rests, some_if_waits, waits_not_over}
use Rattle.kernel_state.proofs.TickChanges.{by_turn, counted_sound, not_gone, slice_treated_part, turn_sound}

-- the calls by which a table becomes another, and the waits that end by them
record Makes (w now : WaitTable) (over : List WaitEnd) : Type 0 where
  pub calls : List Call
  pub after : now ≡ all_called w calls
  pub may : MayCallAll w calls
  pub ends : over ≡ all_over w calls

none_made : (w : WaitTable) → Makes w w []
none_made w = record { calls = []; after = refl; may = tt; ends = refl }

-- lists of calls, one after another
all_called-append : (w : WaitTable) (cs ds : List Call) → all_called w (cs ++ ds) ≡ all_called (all_called w cs) ds
all_called-append w [] ds = refl
all_called-append w (c ∷ cs) ds = all_called-append (called w c) cs ds

may_all-append : (w : WaitTable) (cs ds : List Call) → MayCallAll w cs → MayCallAll (all_called w cs) ds → MayCallAll w (cs ++ ds)
may_all-append w [] ds may more = more
may_all-append w (c ∷ cs) ds may more = (may.0, may_all-append (called w c) cs ds may.1 more)

all_over-append : (w : WaitTable) (cs ds : List Call) → all_over w (cs ++ ds) ≡ all_over w cs ++ all_over (all_called w cs) ds
all_over-append w [] ds = refl
all_over-append w (c ∷ cs) ds =
    let now = called w c in
    ap (λ xs. calls_over w c ++ xs) (all_over-append now cs ds)
    ∙ sym (append_assoc (calls_over w c) (all_over now cs) (all_over (all_called now cs) ds))

more_made : (w x y : WaitTable) (es fs : List WaitEnd) → Makes w x es → Makes x y fs → Makes w y (es ++ fs)
more_made w x y es fs one more =
    let cs = one.calls in
    let ds = more.calls in
    record {
      calls = cs ++ ds;
      after = more.after ∙ (ap (λ v. all_called v ds) one.after ∙ sym (all_called-append w cs ds));
      may = may_all-append w cs ds one.may (subst (λ v. MayCallAll v ds) one.after more.may);
      ends = ap (λ xs. xs ++ fs) one.ends
          ∙ (ap (λ xs. all_over w cs ++ xs) (more.ends ∙ ap (λ v. all_over v ds) one.after) ∙ sym (all_over-append w cs ds));
    }

-- a change by such calls
made_of : (k : Kernel) (c : Change) → CallsWaits k c → Makes k.waits c.kernel.waits c.ends
made_of k c by_calls = record { calls = by_calls.calls; after = by_calls.waits; may = by_calls.may; ends = by_calls.ends }

calls_of : (k : Kernel) (c : Change) → Makes k.waits c.kernel.waits c.ends → All (EndsWithItsThread k c.kernel) c.ends → CallsWaits k c
calls_of k c made gone = record { calls = made.calls; waits = made.after; may = made.may; ends = made.ends; gone = gone }

pub left_calls_waits : LeftCallsWaits
left_calls_waits k c left =
    let its = EndsWithItsThread k c.kernel in record {
      calls = [];
      waits = left.waits;
      may = tt;
      ends = left.ends;
      gone = All-same its c.ends [] left.ends (All-nil its);
    }

-- a wait begins
no_pending : (o : Option Pending) → option_map (λ p. p.wait) o ≡ None → o ≡ None
no_pending None none = refl
no_pending (Some p) none = cc

pub begin_calls_waits : BeginCallsWaits
begin_calls_waits k g t w ticks sound live rests placed =
    let was = thread_of [] k t sound live in
    let none = none_if_rests (thread k t).state (wait_of k.waits t) rests was.wait in
    record {
      calls = Begin t w ∷ [];
      waits = refl;
      may = ((below_256 k t sound.formed.slots live, no_pending (pending k.waits t) none, placed), tt);
      ends = refl;
      gone = All-nil (EndsWithItsThread k (wait_begun k t w ticks));
    }

-- one wait ends: what holds of its end holds of all that end so
abbrev end_of : ℕ → End → WaitEnd
end_of n e = record { wait = n; how = e }

one_end : (P : WaitEnd → Type 0) (o : Option ℕ) (e : End) → ((n : ℕ) → o ≡ Some n → P (end_of n e))
    → All P (option_to_list (option_map (λ n. end_of n e) o) ++ [])
one_end P None e each = All-nil P
one_end P (Some n) e each = All-cons P (end_of n e) [] (each n refl) (All-nil P)

pub wait_end_calls_waits : WaitEndCallsWaits
wait_end_calls_waits k g t e value sound some stays =
    let now = (wait_ended k g t e value).kernel in record {
      calls = Finish t e ∷ [];
      waits = wait_ended-waits k g t e value;
      may = (is_pending (pending k.waits t) some, tt);
      ends = refl;
      gone = one_end (EndsWithItsThread k now) (number_of k.waits t) e (λ n is gone. absurd (stays gone));
    }

-- who ends is over then, and who was over is so still
is_an_end : (state : State) → (state ≡ Completed) ⊎ (state ≡ Terminated) → is_over state ≡ true
is_an_end state over = ⊎_elim (λ (same : state ≡ Completed). ap is_over same) (λ (same : state ≡ Terminated). ap is_over same) over

end_is_over : (k : Kernel) (g : Memory) (t : ℕ) (state : State) → t < length k.threads → (state ≡ Completed) ⊎ (state ≡ Terminated)
    → is_over (thread (ended k g t state).kernel t).state ≡ true
end_is_over k g t state inside over =
    let now : Thread = record (thread k t) { state = state; held = false } in
    let is = ap (λ (x : Thread). is_over x.state) (get_or-set_same k.threads t now blank_thread inside) ∙ is_an_end state over in
    by_end k g t state (λ j. is_over (thread j t).state ≡ true) (λ already. already) (λ waits. is) (λ rests runs. is)

stays_over : (k : Kernel) (t u : ℕ) (now : Thread) → is_over now.state ≡ true → is_over (thread k u).state ≡ true
    → is_over (thread (with_thread k t now) u).state ≡ true
stays_over k t u now over was =
    ⊎_elim
    (λ (same : u ≡ t). subst (λ n. is_over (thread (with_thread k t now) n).state ≡ true) (sym same)
    (⊎_elim
    (λ (inside : t < length k.threads). ap (λ (x : Thread). is_over x.state) (get_or-set_same k.threads t now blank_thread inside) ∙ over)
    (λ (past : length k.threads ≤ t). ap (λ ts. is_over (slice_index_or ts t blank_thread).state) (set_past k.threads t now past)
    ∙ subst (λ n. is_over (thread k n).state ≡ true) same was)
    (cases_lt t (length k.threads))))
    (λ (other : u ≢ t). ap (λ (x : Thread). is_over x.state) (get_or-set_other k.threads t u now blank_thread other) ∙ was)
    (cases_eq u t)

-- by the end of a wait no number is given
pub number_stays : (w : WaitTable) (t u n : ℕ) (e : End) → number_of (ended_wait w t e) u ≡ Some n → number_of w u ≡ Some n
number_stays w t u n e is =
    ⊎_elim
    (λ (same : u ≡ t). subst (λ i. number_of w i ≡ Some n) (sym same)
    (⊎_elim
    (λ (inside : t < length w.waits). absurd (none-some n
    (sym (ap (option_map (λ (p : Pending). p.number)) (get_or-set_same w.waits t None None inside)) ∙ here same)))
    (λ (past : length w.waits ≤ t). sym (ap (λ ws. option_map (λ (p : Pending). p.number) (slice_index_or ws t None)) (set_past w.waits t None past))
    ∙ here same)
    (cases_lt t (length w.waits))))
    (λ (other : u ≢ t). sym (ap (option_map (λ (p : Pending). p.number)) (get_or-set_other w.waits t u None None other)) ∙ is)
    (cases_eq u t) where
      here : u ≡ t → number_of (ended_wait w t e) t ≡ Some n
      here same = subst (λ i. number_of (ended_wait w t e) i ≡ Some n) same is

pub end_only_ends : EndOnlyEnds
end_only_ends k g t state over = record {
  numbers = λ u n. by_end k g t state (λ j. number_of j.waits u ≡ Some n → number_of k.waits u ≡ Some n)
      (λ _ is. is) (λ _ is. number_stays k.waits t u n Gone is) (λ _ _ is. is);
  over = λ u. by_end k g t state (λ j. is_over (thread k u).state ≡ true → is_over (thread j u).state ≡ true)
      (λ _ was. was) (λ _ was. stays_over k t u now (is_an_end state over) was) (λ _ _ was. stays_over k t u now (is_an_end state over) was);
} where
  now : Thread
  now = record (thread k t) { state = state; held = false }

-- a thread ends with its wait, or in none
by_gone : (k : Kernel) (g : Memory) (t : ℕ) (state : State) (P : Change → Type 0)
    → (is_waiting (thread k t).state ≡ true → P (followed (wait_ended k g t Gone []) (λ j h. quiet (over_by j t state) h)))
    → (is_waiting (thread k t).state ≡ false → P (quiet (over_by k t state) g)) → P (ended k g t state)
by_gone k g t state P waiting resting =
    cond_both (is_waiting (thread k t).state) (wait_ended k g t Gone []) (quiet k g) (λ (c : Change). P (followed c (λ j h. quiet (over_by j t state) h)))
    waiting resting

over_by-waits : (k : Kernel) (t : ℕ) (state : State) → (over_by k t state).waits ≡ k.waits
over_by-waits k t state = cond_both (is_over (thread k t).state) k (ended_now k t state) (λ (j : Kernel). j.waits ≡ k.waits) (λ _. refl) (λ _. refl)

pub end_calls_waits : EndCallsWaits
end_calls_waits k g t state sound live over =
    let inside : t < length k.threads = omega (arith, sound.formed.threads, below_256 k t sound.formed.slots live) in
    let was = thread_of [] k t sound live in
    by_gone k g t state (λ (c : Change). is_over (thread c.kernel t).state ≡ true → CallsWaits k c)
    (λ waits is_over_now.
    let some = some_if_waits (thread k t).state (wait_of k.waits t) waits was.wait in
    let its = EndsWithItsThread k (over_by (left_wait k t Gone) t state) in
    let one = calls_over k.waits (Finish t Gone) ++ [] in
    let runs = waits_not_over (thread k t).state waits in
    calls_of k (followed (wait_ended k g t Gone []) (λ j h. quiet (over_by j t state) h)) (record {
      calls = Finish t Gone ∷ [];
      after = over_by-waits (left_wait k t Gone) t state;
      may = (is_pending (pending k.waits t) some, tt);
      ends = append-nil one;
    }) (All-same its (one ++ []) one (append-nil one) (one_end its (number_of k.waits t) Gone (λ n is gone. (t, is, runs, is_over_now)))))
    (λ rests _. left_calls_waits k (quiet (over_by k t state) g) (record {
      waits = over_by-waits k t state;
      wheel = cond_both (is_over (thread k t).state) k (ended_now k t state) (λ (j : Kernel). j.wheel ≡ k.wheel) (λ _. refl) (λ _. refl);
      ends = refl;
    }))
    (end_is_over k g t state inside over)

-- two changes
pub followed_calls_waits : FollowedCallsWaits
followed_calls_waits k c d first only second then_only =
    let its = EndsWithItsThread k d.kernel in
    calls_of k (record d { ends = c.ends ++ d.ends })
    (more_made k.waits c.kernel.waits d.kernel.waits c.ends d.ends (made_of k c first) (made_of c.kernel d second))
    (All-append its c.ends d.ends
    (All-weaker (EndsWithItsThread k c.kernel) its (λ x its_thread gone.
    let at = its_thread gone in (at.0, at.1, at.2, then_only.over at.0 at.3)) c.ends first.gone)
    (All-weaker (EndsWithItsThread c.kernel d.kernel) its (λ x its_thread gone.
    let at = its_thread gone in (
      at.0,
      only.numbers at.0 x.wait at.1,
      false_from_ne_true (is_over (thread k at.0).state) (λ was. false≢true (sym at.2 ∙ only.over at.0 was)),
      at.3,
    )) d.ends second.gone))

-- a tick: each turn ends no wait, or one whose time is up
abbrev IsNotGone : WaitEnd → Type 0
IsNotGone d = d.how ≢ Gone

turn_makes : (k : Kernel) (g : Memory) (d : Armed) → IsSound k → Makes k.waits (turn k g d).kernel.waits (turn k g d).ends × All IsNotGone (turn k g d).ends
turn_makes k g d sound =
    by_turn k g d (λ (c : Change). Makes k.waits c.kernel.waits c.ends × All IsNotGone c.ends) sound
    (λ _. (none_made k.waits, All-nil IsNotGone))
    (λ _ some. (
      made_of k (wait_ended k g d.id TimedOut []) (wait_end_calls_waits k g d.id TimedOut [] sound some not_gone),
      one_end IsNotGone (number_of k.waits d.id) TimedOut (λ n is. not_gone),
    ))

turns_make : WaitEndKeepsSound → (ds : List Armed) (k : Kernel) (g : Memory) → IsSound k
    → Makes k.waits (turns ds k g).kernel.waits (turns ds k g).ends × All IsNotGone (turns ds k g).ends
turns_make ends [] k g sound = (none_made k.waits, All-nil IsNotGone)
turns_make ends (d ∷ ds) k g sound =
    let now = turn k g d in
    let last = turns ds now.kernel now.memory in
    let one = turn_makes k g d sound in
    let rest = turns_make ends ds now.kernel now.memory (turn_sound ends k g d sound) in (
      more_made k.waits now.kernel.waits last.kernel.waits now.ends last.ends one.0 rest.0,
      All-append IsNotGone now.ends last.ends one.1 rest.1,
    )

pub tick_calls_waits : WaitEndKeepsSound → TicksKeepTheWheel → TickCallsWaits
tick_calls_waits ends tick k g serves room =
    let counted = tick_counted k in
    let c = turns counted.due counted g in
    let made = turns_make ends counted.due counted g (counted_sound tick k serves.sound serves.running room) in
    let cleared : Kernel = record c.kernel { due = [] } in
    let its = EndsWithItsThread k (advanced k g).kernel in
    record {
      calls = made.0.calls;
      waits = slice_treated_part (λ j. j.waits) (λ _ _ same _. same) k.ready.run cleared ∙ made.0.after;
      may = made.0.may;
      ends = append-nil c.ends ∙ made.0.ends;
      gone = All-same its (c.ends ++ []) c.ends (append-nil c.ends) (All-weaker IsNotGone its (λ x not_so gone. absurd (not_so gone)) c.ends made.1);
    }
