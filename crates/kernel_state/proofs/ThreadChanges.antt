-- Readying, suspending, ending and resetting a thread keep a kernel sound.
use Rattle.std.proofs.Common.{◌≡◌, ℕ, ◌<◌, ◌⊎◌, ◌==◌, Bool, true, false, List, [], refl, sym, ap, ◌∙◌, subst, ⊎_elim, inl, inr, arith}
use Rattle.std.proofs.lemmas.Bool.{cond_both, eqb-true, false≢true, false_from_ne_true, leb-true, or_cases}
use Rattle.std.proofs.lemmas.List.{get_or-set_same}
use Rattle.tx_types.specs.State.{state_number}
use Rattle.tx_types.specs.declared.state.State.{State}
use Rattle.tx_types.specs.declared.state.State.TheVariants.{Ready, Completed, Terminated, Suspended}
use Rattle.ready_maps.specs.Moves.{readied, unreadied}
use Rattle.ready_maps.specs.Sched.{Sched, is_ready}
use Rattle.soft_timers.specs.Laws.{Disarm}
use Rattle.soft_timers.specs.Timers.{IsRunning, disarmed}
use Rattle.suspend_lists.specs.Waits.{ended as ended_wait, wait_of}
use Rattle.tx_types.specs.declared.waits.End.TheVariants.{Gone}
use Rattle.kernel_state.specs.Kernel.{thread, with_thread, is_thread}
use Rattle.kernel_state.specs.Laws.{OneStateChanges, OneWaitChanges, with_all, with_both}
use Rattle.kernel_state.specs.Serves.{Serves}
use Rattle.kernel_state.specs.Scheduling.{ChangesOnly, ReadyChangesOne, UnreadyChangesOne}
use Rattle.kernel_state.specs.Sound.{IsSound, IsSoundBut, IsSlice, IsWaitOf}
use Rattle.kernel_state.specs.Thread.{blank_thread, is_over, is_state, is_waiting}
use Rattle.kernel_state.specs.ThreadChanges.{with_fresh, ended, ended_now}
use Rattle.kernel_state.specs.ThreadLaws.{ReadyKeepsSound, UnreadyKeepsSound, HeldKeepsSound, FreshKeepsSound, EndKeepsSound, StartKeepsServing, SuspendKeepsServing, EndKeepsServing, ResetKeepsServing}
use Rattle.kernel_state.specs.declared.kernel.Kernel.{Kernel}
use Rattle.kernel_state.specs.declared.thread.Thread.{Thread}
use Rattle.kernel_state.proofs.Making.{whole_slice}
use Rattle.kernel_state.proofs.Ends.{Below, by_end, end_keeps_memory, left_changes_only, left_is_none}
use Rattle.kernel_state.proofs.Promises.{AreKept, fewer_waits, left_of_end}
use Rattle.kernel_state.specs.Waiting.{left_wait}
use Rattle.kernel_state.proofs.Sound.{below_256, thread_of}
use Rattle.kernel_state.proofs.States.{over_rests, rests_on, some_if_waits, waits_not_ready}

-- the scheduler as it was
pub unchanged : (but : List ℕ) (k : Kernel) (t : ℕ) → IsSoundBut but k → ChangesOnly k.ready k.ready t
unchanged but k t sound = record {
  kept = sound.formed.scheduler;
  levels = refl;
  ready = λ u other. refl;
  priority = λ u other. refl;
  threshold = λ u other. refl;
}

-- a thread changes, and neither its numbers nor the scheduler does
alone_keeps_sound : OneStateChanges → (but : List ℕ) (k : Kernel) (t : ℕ) (now : Thread) → IsSoundBut but k → is_thread k t ≡ true
    → now.module ≡ (thread k t).module → now.priority ≡ (thread k t).priority → now.threshold ≡ (thread k t).threshold
    → is_ready k.ready t ≡ is_state now.state Ready → IsSlice now.slice now.left → (now.held ≡ true → is_waiting now.state ≡ true)
    → IsWaitOf now.state (wait_of k.waits t) → IsSoundBut but (with_thread k t now)
alone_keeps_sound changes but k t now sound live own priority threshold ready slice held wait =
    changes but k t now k.ready sound live (record {
      «module» = own;
      priority = priority;
      threshold = threshold;
      others = unchanged but k t sound;
      in_scheduler = refl;
      threshold_in_scheduler = refl;
    }) ready slice held wait

-- a thread in this state waits for nothing
not_waiting : (state : State) (n : ℕ) → state_number state ≡ n → n < 4 → is_waiting state ≡ true → ⊥
not_waiting state n same below waits = let least = leb-true 4 (state_number state) waits in omega arith

rests : (state : State) (n : ℕ) → state_number state ≡ n → n < 4 → is_waiting state ≡ false
rests state n same below = false_from_ne_true (is_waiting state) (not_waiting state n same below)

-- the states in which a thread is over, by number
over_number : (state : State) → is_over state ≡ true → (state_number state ≡ 1) ⊎ (state_number state ≡ 2)
over_number state over =
    ⊎_elim (λ completed. inl (eqb-true (state_number state) 1 completed)) (λ terminated. inr (eqb-true (state_number state) 2 terminated))
    (or_cases (is_state state Completed) (is_state state Terminated) over)

-- a thread that waits for nothing has no suspension that is held
none_held : (but : List ℕ) (k : Kernel) (t : ℕ) → IsSoundBut but k → is_thread k t ≡ true → is_waiting (thread k t).state ≡ false → (thread k t).held ≡ false
none_held but k t sound live none =
    false_from_ne_true (thread k t).held (λ held. false≢true (sym none ∙ (thread_of but k t sound live).held held))

-- a ready thread waits for nothing
pub ready_rests : (but : List ℕ) (k : Kernel) (t : ℕ) → IsSoundBut but k → is_thread k t ≡ true → is_ready k.ready t ≡ true
    → is_waiting (thread k t).state ≡ false
ready_rests but k t sound live ready =
    let was = thread_of but k t sound live in
    rests (thread k t).state 0 (eqb-true (state_number (thread k t).state) 0 (sym was.ready ∙ ready)) (omega arith)

pub ready_keeps_sound : OneStateChanges → ReadyChangesOne → ReadyKeepsSound
ready_keeps_sound changes readies but k t sound live absent none =
    let was = thread_of but k t sound live in
    let ready = readies k.ready t sound.formed.scheduler (below_256 k t sound.formed.slots live) absent in
    let now : Thread = record (thread k t) { state = Ready; left = (thread k t).slice } in
    changes but k t now (readied k.ready t) sound live (record {
      «module» = refl;
      priority = refl;
      threshold = refl;
      others = ready.others;
      in_scheduler = ready.priority;
      threshold_in_scheduler = ready.threshold;
    }) ready.ready (whole_slice (thread k t).slice) (λ held. absurd (false≢true (sym (none_held but k t sound live none) ∙ held)))
    (rests_on (thread k t).state Ready (wait_of k.waits t) was.wait none refl)

-- a thread that was ready isn't any more, and has another state
unreadied_keeps_sound : OneStateChanges → UnreadyChangesOne → (but : List ℕ) (k : Kernel) (t : ℕ) (state : State) (held : Bool) → IsSoundBut but k
    → is_thread k t ≡ true
    → is_ready k.ready t ≡ true → is_state state Ready ≡ false → is_waiting state ≡ false → held ≡ false
    → IsSoundBut but (with_both k t (record (thread k t) { state = state; held = held }) (unreadied k.ready t))
unreadied_keeps_sound changes unreadies but k t state held sound live ready other none not_held =
    let was = thread_of but k t sound live in
    let unready = unreadies k.ready t sound.formed.scheduler ready in
    let now : Thread = record (thread k t) { state = state; held = held } in
    changes but k t now (unreadied k.ready t) sound live (record {
      «module» = refl;
      priority = refl;
      threshold = refl;
      others = unready.others;
      in_scheduler = unready.priority;
      threshold_in_scheduler = unready.threshold;
    }) (unready.ready ∙ sym other) was.slice (λ is_held. absurd (false≢true (sym not_held ∙ is_held)))
    (rests_on (thread k t).state state (wait_of k.waits t) was.wait (ready_rests but k t sound live ready) none)

pub unready_keeps_sound : OneStateChanges → UnreadyChangesOne → UnreadyKeepsSound
unready_keeps_sound changes unreadies but k t state sound live ready other none =
    unreadied_keeps_sound changes unreadies but k t state (thread k t).held sound live ready other none
    (none_held but k t sound live (ready_rests but k t sound live ready))

pub held_keeps_sound : OneStateChanges → HeldKeepsSound
held_keeps_sound changes but k t held sound live waits =
    let was = thread_of but k t sound live in
    alone_keeps_sound changes but k t (record (thread k t) { held = held }) sound live refl refl refl was.ready was.slice waits was.wait

pub fresh_keeps_sound : OneStateChanges → FreshKeepsSound
fresh_keeps_sound changes but k t fresh sound live =
    let was = thread_of but k t sound live in
    alone_keeps_sound changes but k t (record (thread k t) { fresh = fresh }) sound live refl refl refl was.ready was.slice was.held was.wait

pub start_keeps_serving : OneStateChanges → ReadyChangesOne → StartKeepsServing
start_keeps_serving changes readies k g t serves live suspended_now =
    let sound = serves.sound in
    let was = thread_of [] k t sound live in
    let number : state_number (thread k t).state ≡ 3 = eqb-true (state_number (thread k t).state) 3 suspended_now in
    let absent : is_ready k.ready t ≡ false = was.ready ∙ ap (λ n. n == 0) number in
    let here : thread (with_fresh k t false) t ≡ record (thread k t) { fresh = false } =
    get_or-set_same k.threads t (record (thread k t) { fresh = false }) blank_thread
    (omega (arith, sound.formed.threads, below_256 k t sound.formed.slots live)) in
    record {
      sound = ready_keeps_sound changes readies [] (with_fresh k t false) t (fresh_keeps_sound changes [] k t false sound live) live absent
          (ap (λ (x : Thread). is_waiting x.state) here ∙ rests (thread k t).state 3 number (omega arith));
      running = serves.running;
      promised = serves.promised;
    }

pub suspend_keeps_serving : OneStateChanges → UnreadyChangesOne → SuspendKeepsServing
suspend_keeps_serving changes unreadies k g t serves live =
    let sound = serves.sound in
    let was = thread_of [] k t sound live in
    let state = (thread k t).state in
    cond_both (is_state state Ready) _ _ (λ (j : Kernel). Serves j g)
    (λ ready. record {
      sound = unready_keeps_sound changes unreadies [] k t Suspended sound live (was.ready ∙ ready) refl refl;
      running = serves.running;
      promised = serves.promised;
    })
    (λ not_ready. cond_both (is_waiting state) _ _ (λ (j : Kernel). Serves j g)
    (λ waits. record { sound = held_keeps_sound changes [] k t true sound live (λ _. waits); running = serves.running; promised = serves.promised })
    (λ _. serves))

-- a state in which a thread is over isn't READY, and none in which it waits
over_is_not_ready : (state : State) → (state ≡ Completed) ⊎ (state ≡ Terminated) → is_state state Ready ≡ false
over_is_not_ready state over =
    ⊎_elim (λ (same : state ≡ Completed). ap (λ s. is_state s Ready) same) (λ (same : state ≡ Terminated). ap (λ s. is_state s Ready) same) over

over_is_not_waiting : (state : State) → (state ≡ Completed) ⊎ (state ≡ Terminated) → is_waiting state ≡ false
over_is_not_waiting state over =
    ⊎_elim (λ (same : state ≡ Completed). ap is_waiting same) (λ (same : state ≡ Terminated). ap is_waiting same) over

-- a thread in no wait ends, or one that waits
rests_ends : OneStateChanges → UnreadyChangesOne → (k : Kernel) (t : ℕ) (state : State) → IsSound k → is_thread k t ≡ true
    → (state ≡ Completed) ⊎ (state ≡ Terminated) → is_waiting (thread k t).state ≡ false → IsSound (ended_now k t state)
rests_ends changes unreadies k t state sound live over none =
    let was = thread_of [] k t sound live in
    let now : Thread = record (thread k t) { state = state; held = false } in
    let not_ready = over_is_not_ready state over in
    let not_waiting = over_is_not_waiting state over in
    cond_both (is_ready k.ready t) (unreadied k.ready t) k.ready (λ (s : Sched). IsSound (with_both k t now s))
    (λ ready. unreadied_keeps_sound changes unreadies [] k t state false sound live ready not_ready not_waiting refl)
    (λ absent. alone_keeps_sound changes [] k t now sound live refl refl refl (absent ∙ sym not_ready) was.slice (λ held. absurd (false≢true held))
    (rests_on (thread k t).state state (wait_of k.waits t) was.wait none not_waiting))

waits_ends : OneWaitChanges → Below → (k : Kernel) (t : ℕ) (state : State) → IsSound k → is_thread k t ≡ true
    → (state ≡ Completed) ⊎ (state ≡ Terminated) → is_waiting (thread k t).state ≡ true → IsSound (ended_now (left_wait k t Gone) t state)
waits_ends changes below k t state sound live over waits =
    let was = thread_of [] k t sound live in
    let now : Thread = record (thread k t) { state = state; held = false } in
    let some = some_if_waits (thread k t).state (wait_of k.waits t) waits was.wait in
    let absent : is_ready k.ready t ≡ false = was.ready ∙ waits_not_ready (thread k t).state waits in
    let only = left_changes_only below [] k t Gone sound some in
    cond_both (is_ready k.ready t) (unreadied k.ready t) k.ready (λ (s : Sched). IsSound (with_all k t now s (ended_wait k.waits t Gone) (disarmed k.wheel t)))
    (λ ready. absurd (false≢true (sym absent ∙ ready)))
    (λ _. changes [] k t now k.ready (ended_wait k.waits t Gone) (disarmed k.wheel t) sound live (record {
      «module» = refl;
      priority = refl;
      threshold = refl;
      others = unchanged [] k t sound;
      in_scheduler = refl;
      threshold_in_scheduler = refl;
    }) (absent ∙ sym (over_is_not_ready state over)) was.slice (λ held. absurd (false≢true held))
    (subst (IsWaitOf state) (sym (left_is_none k t Gone (omega (arith, sound.formed.waits.threads, below_256 k t sound.formed.slots live))))
    (over_is_not_waiting state over)) only)

pub end_keeps_sound : OneStateChanges → OneWaitChanges → UnreadyChangesOne → Below → EndKeepsSound
end_keeps_sound changes wait_changes unreadies below k g t state sound live over =
    by_end k g t state IsSound (λ already. sound)
    (λ waits. waits_ends wait_changes below k t state sound live over waits)
    (λ none runs. rests_ends changes unreadies k t state sound live over none)

pub end_keeps_serving : EndKeepsSound → Below → EndKeepsServing
end_keeps_serving ends below k g t state serves live over = record {
  sound = ends k g t state serves.sound live over;
  running = by_end k g t state (λ j. IsRunning j.wheel) (λ _. serves.running)
      (λ _. below.keep_running k.wheel (Disarm t) tt serves.running) (λ _ _. serves.running);
  promised = subst (AreKept (ended k g t state).kernel) (sym (end_keeps_memory k g t state))
      (by_end k g t state (λ j. AreKept j g) (λ _. serves.promised)
      (λ _. fewer_waits k (left_wait k t Gone) g g serves.promised refl refl refl (λ u x is. left_of_end k.waits t u Gone x is)) (λ _ _. serves.promised));
}

pub reset_keeps_serving : OneStateChanges → ResetKeepsServing
reset_keeps_serving changes k g t serves live over =
    let sound = serves.sound in
    let was = thread_of [] k t sound live in
    let state = (thread k t).state in
    let number = over_number state over in
    let absent : is_ready k.ready t ≡ false = was.ready ∙ ⊎_elim (λ (n : state_number state ≡ 1). ap (λ m. m == 0) n)
    (λ (n : state_number state ≡ 2). ap (λ m. m == 0) n) number in
    let none = over_rests state over in
    record {
      sound = alone_keeps_sound changes [] k t (record (thread k t) {
        hart = (thread k t).opening;
        state = Suspended;
        left = (thread k t).slice;
        fresh = true;
      }) sound live refl refl refl
          absent (whole_slice (thread k t).slice) (λ held. absurd (false≢true (sym (none_held [] k t sound live none) ∙ held)))
          (rests_on state Suspended (wait_of k.waits t) was.wait none refl);
      running = serves.running;
      promised = serves.promised;
    }
