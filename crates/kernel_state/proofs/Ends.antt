-- What the end of a wait, and that of a thread, leaves of waits and timeouts.
use Rattle.std.proofs.Common.{◌≡◌, ◌≢◌, ℕ, ◌<◌, ◌≤◌, Bool, true, false, List, [], length, Option, None, Some, IfSome, IsSome, refl, sym, ap, ◌∙◌, subst, ⊎_elim, arith}
use Rattle.std.specs.Option.{option_map}
use Rattle.std.proofs.lemmas.Bool.{cases_lt, cond_both, cond-true, cond-false, false≢true, true≢false}
use Rattle.std.proofs.lemmas.List.{get_or-set_same, get_or-set_other, get_or_past}
use Rattle.tx_types.specs.declared.state.State.{State}
use Rattle.tx_types.specs.declared.waits.End.{End}
use Rattle.tx_types.specs.declared.waits.End.TheVariants.{Satisfied, TimedOut, Aborted, Deleted, Gone}
use Rattle.tx_types.specs.declared.waits.Totals.{Totals}
use Rattle.region_guard.specs.Memory.{Memory}
use Rattle.soft_timers.specs.Laws.{Disarm, CallsKeepTheWheel, CallsKeepRunning, CallsSpareOthers, ArmedIsThere, DisarmedIsNone}
use Rattle.soft_timers.specs.Timers.{TimerTable, armed, disarmed}
use Rattle.suspend_lists.specs.Laws.{Finish, CallsKeepTheTable}
use Rattle.suspend_lists.specs.Waits.{WaitTable, counted, ended as ended_wait, pending, wait_of}
use Rattle.suspend_lists.specs.declared.wait.Pending.{Pending}
use Rattle.suspend_lists.specs.declared.wait.Wait.{Wait}
use Rattle.kernel_state.specs.Change.{Change, quiet}
use Rattle.kernel_state.specs.Contents.{IsAsked}
use Rattle.kernel_state.specs.Kernel.{thread, is_thread}
use Rattle.kernel_state.specs.Laws.{WaitsChangeOnly}
use Rattle.kernel_state.specs.Readying.{made_ready}
use Rattle.kernel_state.specs.Room.{RaisesCounts}
use Rattle.kernel_state.specs.Sound.{IsSoundBut, IsEntry, IsTimeoutOf}
use Rattle.kernel_state.specs.Thread.{is_over, is_waiting}
use Rattle.kernel_state.specs.ThreadChanges.{ended, ended_now, over_by}
use Rattle.kernel_state.specs.WaitLaws.{EndChangesOne, EndKeepsMemory, EndRaisesNone, WaitEndRaisesNone, with_waits}
use Rattle.kernel_state.specs.Waiting.{answer_of, left_wait, released, suspended_at_last, wait_ended, with_answer_to}
use Rattle.kernel_state.specs.declared.kernel.Kernel.{Kernel}
use Rattle.kernel_state.proofs.States.{waits_if_some, waits_not_over, waits_not_ready}
use Rattle.kernel_state.proofs.Sound.{thread_of}
use Rattle.ready_maps.specs.Sched.{is_ready}

-- the laws of the tables
pub record Below : Type 0 where
  pub keep_table : CallsKeepTheTable
  pub keep_wheel : CallsKeepTheWheel
  pub keep_running : CallsKeepRunning
  pub spare_others : CallsSpareOthers
  pub armed : ArmedIsThere
  pub disarmed : DisarmedIsNone

-- a thread is in a wait where the table has one for it, and has a number below 256 then
pub is_pending : (o : Option Pending) → IsSome (option_map (λ p. p.wait) o) → IsSome o
is_pending None some = some
is_pending (Some p) some = refl

pub none_past : (w : WaitTable) (t : ℕ) → length w.waits ≤ t → wait_of w t ≡ None
none_past w t past = ap (option_map (λ (p : Pending). p.wait)) (get_or_past w.waits t None past)

pub waiter_below : (but : List ℕ) (k : Kernel) (t : ℕ) → IsSoundBut but k → IsSome (wait_of k.waits t) → t < 256
waiter_below but k t sound some =
    ⊎_elim (λ below. below) (λ past. absurd (none_some (wait_of k.waits t) (none_past k.waits t (omega (arith, sound.formed.waits.threads))) some))
    (cases_lt t 256) where
      none_some : (o : Option Wait) → o ≡ None → IsSome o → ⊥
      none_some None none is = false≢true is
      none_some (Some w) none is = cc

pub waiter_is_thread : (but : List ℕ) (k : Kernel) (t : ℕ) → IsSoundBut but k → IsSome (wait_of k.waits t) → is_thread k t ≡ true
waiter_is_thread but k t sound some = by_entry (is_thread k t) (sound.formed.entries t (waiter_below but k t sound some)) where
  by_entry : (b : Bool) → IsEntry k t b → b ≡ true
  by_entry true entry = refl
  by_entry false entry = absurd (false≢true (subst IsSome entry.1 some))

pub waiter_not_ready : (but : List ℕ) (k : Kernel) (t : ℕ) → IsSoundBut but k → IsSome (wait_of k.waits t) → is_ready k.ready t ≡ false
waiter_not_ready but k t sound some =
    let was = thread_of but k t sound (waiter_is_thread but k t sound some) in
    was.ready ∙ waits_not_ready (thread k t).state (waits_if_some (thread k t).state (wait_of k.waits t) some was.wait)

-- what holds of a kernel whether a thread goes on or not
pub by_release : (j : Kernel) (t : ℕ) (e : End) (P : Kernel → Type 0) → P j → P (suspended_at_last j t) → P (made_ready j t) → P (released j t e)
by_release j t Satisfied P left held ready = cond_both (thread j t).held (suspended_at_last j t) (made_ready j t) P (λ _. held) (λ _. ready)
by_release j t TimedOut P left held ready = cond_both (thread j t).held (suspended_at_last j t) (made_ready j t) P (λ _. held) (λ _. ready)
by_release j t Aborted P left held ready = cond_both (thread j t).held (suspended_at_last j t) (made_ready j t) P (λ _. held) (λ _. ready)
by_release j t Deleted P left held ready = cond_both (thread j t).held (suspended_at_last j t) (made_ready j t) P (λ _. held) (λ _. ready)
by_release j t Gone P left held ready = left

-- an answer leaves the scheduler
pub answered-ready : (k : Kernel) (t : ℕ) (a : Option ℕ) → (with_answer_to k t a).ready ≡ k.ready
answered-ready k t None = refl
answered-ready k t (Some a0) = refl

-- and timeouts, as going on does
pub answered-wheel : (k : Kernel) (t : ℕ) (a : Option ℕ) → (with_answer_to k t a).wheel ≡ k.wheel
answered-wheel k t None = refl
answered-wheel k t (Some a0) = refl

pub released-wheel : (k : Kernel) (t : ℕ) (e : End) → (released k t e).wheel ≡ k.wheel
released-wheel k t e = by_release k t e (λ j. j.wheel ≡ k.wheel) refl refl refl

-- who has left waits for nothing, and each other thread as before
pub left_is_none : (k : Kernel) (t : ℕ) (e : End) → t < length k.waits.waits → wait_of (ended_wait k.waits t e) t ≡ None
left_is_none k t e below = ap (option_map (λ (p : Pending). p.wait)) (get_or-set_same k.waits.waits t None None below)

left_others : (k : Kernel) (t u : ℕ) (e : End) → u ≢ t → wait_of (ended_wait k.waits t e) u ≡ wait_of k.waits u
left_others k t u e other = ap (option_map (λ (p : Pending). p.wait)) (get_or-set_other k.waits.waits t u None None other)

pub left_changes_only : Below → (but : List ℕ) (k : Kernel) (t : ℕ) (e : End) → IsSoundBut but k → IsSome (wait_of k.waits t)
    → WaitsChangeOnly k (ended_wait k.waits t e) (disarmed k.wheel t) t
left_changes_only below but k t e sound some =
    let inside : t < length k.waits.waits = omega (arith, sound.formed.waits.threads, waiter_below but k t sound some) in
    record {
      waits = below.keep_table k.waits (Finish t e) sound.formed.waits (is_pending (pending k.waits t) some);
      wheel = below.keep_wheel k.wheel (Disarm t) sound.formed.wheel tt;
      others = λ u other. left_others k t u e other;
      other_timeouts = λ i other. below.spare_others k.wheel (Disarm t) i other;
      timeout = subst (λ o. IsTimeoutOf o (armed (disarmed k.wheel t) t)) (sym (left_is_none k t e inside)) (below.disarmed k.wheel t);
      asked = subst (λ o. IfSome o (IsAsked k.objects k.queues k.semas)) (sym (left_is_none k t e inside)) tt;
    }

-- a thread is over already, or waits, or neither
pub by_end : (k : Kernel) (g : Memory) (t : ℕ) (state : State) (P : Kernel → Type 0)
    → (is_over (thread k t).state ≡ true → P k)
    → (is_waiting (thread k t).state ≡ true → P (ended_now (left_wait k t Gone) t state))
    → (is_waiting (thread k t).state ≡ false → is_over (thread k t).state ≡ false → P (ended_now k t state))
    → P (ended k g t state).kernel
by_end k g t state P over waiting resting =
    cond_both (is_waiting (thread k t).state) (wait_ended k g t Gone []) (quiet k g) (λ (c : Change). P (over_by c.kernel t state))
    (λ waits. cond_both (is_over (thread k t).state) (left_wait k t Gone) (ended_now (left_wait k t Gone) t state) P
    (λ is. absurd (true≢false (sym is ∙ waits_not_over (thread k t).state waits))) (λ _. waiting waits))
    (λ rests. cond_both (is_over (thread k t).state) k (ended_now k t state) P over (resting rests))

pub end_keeps_memory : EndKeepsMemory
end_keeps_memory k g t state =
    cond_both (is_waiting (thread k t).state) (wait_ended k g t Gone []) (quiet k g) (λ (c : Change). c.memory ≡ g)
    (λ _. refl) (λ _. refl)

pub end_changes_one : EndChangesOne
end_changes_one k g t state =
    by_end k g t state (λ j. j ≡ with_waits (over_by k t state) j.waits j.wheel)
    (λ over. ap (λ j. with_waits j k.waits k.wheel) (sym (cond-true (is_over (thread k t).state) k (ended_now k t state) over)))
    (λ waits. ap (λ j. with_waits j (ended_wait k.waits t Gone) (disarmed k.wheel t)) (sym (is_ended (waits_not_over (thread k t).state waits))))
    (λ rests runs. ap (λ j. with_waits j k.waits k.wheel) (sym (is_ended runs))) where
      is_ended : is_over (thread k t).state ≡ false → over_by k t state ≡ ended_now k t state
      is_ended runs = cond-false (is_over (thread k t).state) k (ended_now k t state) runs

-- a part of the kernel that no answer and no going on changes
pub by_answer : (j : Kernel) (t : ℕ) (e : End) (a : Option ℕ) {X : Type 0} (part : Kernel → X)
    → ((now : Kernel) → part (suspended_at_last now t) ≡ part now) → ((now : Kernel) → part (made_ready now t) ≡ part now)
    → ((a0 : ℕ) → part (with_answer_to j t (Some a0)) ≡ part j) → part (released (with_answer_to j t a) t e) ≡ part j
by_answer j t e None part held ready answers = by_release j t e (λ now. part now ≡ part j) refl (held j) (ready j)
by_answer j t e (Some a0) part held ready answers =
    let now = with_answer_to j t (Some a0) in
    by_release now t e (λ after. part after ≡ part j) (answers a0) (held now ∙ answers a0) (ready now ∙ answers a0)

-- waits, timeouts and the list of what is due
pub wait_ended-waits : (k : Kernel) (g : Memory) (t : ℕ) (e : End) (value : List ℕ) → (wait_ended k g t e value).kernel.waits ≡ ended_wait k.waits t e
wait_ended-waits k g t e value = by_answer (left_wait k t e) t e (answer_of (wait_of k.waits t) e) (λ j. j.waits) (λ _. refl) (λ _. refl) (λ _. refl)

pub wait_ended-wheel : (k : Kernel) (g : Memory) (t : ℕ) (e : End) (value : List ℕ) → (wait_ended k g t e value).kernel.wheel ≡ disarmed k.wheel t
wait_ended-wheel k g t e value = by_answer (left_wait k t e) t e (answer_of (wait_of k.waits t) e) (λ j. j.wheel) (λ _. refl) (λ _. refl) (λ _. refl)

pub wait_ended-due : (k : Kernel) (g : Memory) (t : ℕ) (e : End) (value : List ℕ) → (wait_ended k g t e value).kernel.due ≡ k.due
wait_ended-due k g t e value = by_answer (left_wait k t e) t e (answer_of (wait_of k.waits t) e) (λ j. j.due) (λ _. refl) (λ _. refl) (λ _. refl)

-- no end is a beginning
counted-begun : (x : Totals) (e : End) → (counted x e).begun ≡ x.begun
counted-begun x Satisfied = refl
counted-begun x TimedOut = refl
counted-begun x Aborted = refl
counted-begun x Deleted = refl
counted-begun x Gone = refl

pub wait_end_raises_none : WaitEndRaisesNone
wait_end_raises_none k g t e value =
    let begun = ap (λ (w : WaitTable). w.totals.begun) (wait_ended-waits k g t e value) ∙ counted-begun k.waits.totals e in
    let armings = ap (λ (h : TimerTable). h.armings) (wait_ended-wheel k g t e value) in
    let ticks = ap (λ (h : TimerTable). h.ticks) (wait_ended-wheel k g t e value) in
    record { begun = omega (arith, begun); armings = omega (arith, armings); ticks = omega (arith, ticks) }

pub end_raises_none : EndRaisesNone
end_raises_none k g t state =
    by_end k g t state (RaisesCounts 0 k) (λ _. none) (λ _. record { begun = omega arith; armings = omega arith; ticks = omega arith })
    (λ _ _. record { begun = omega arith; armings = omega arith; ticks = omega arith }) where
      none : RaisesCounts 0 k k
      none = record { begun = omega arith; armings = omega arith; ticks = omega arith }
