-- The beginning and the end of a wait keep a kernel sound.
use Rattle.std.proofs.Common.{◌≡◌, ◌≢◌, ℕ, ◌+◌, ◌^◌, ◌<◌, ◌≤◌, true, false, cond, List, [], length, Option, None, Some, IfSome, IsSome, refl, sym, ap, ◌∙◌, subst, arith}
use Rattle.std.specs.Option.{option_map}
use Rattle.std.proofs.lemmas.Bool.{cond_both, cond-true, false≢true}
use Rattle.std.proofs.lemmas.List.{get_or-set_same, get_or-set_other}
use Rattle.tx_types.specs.declared.state.State.TheVariants.{Ready, Suspended}
use Rattle.tx_types.specs.declared.waits.End.{End}
use Rattle.tx_types.specs.declared.waits.End.TheVariants.{Satisfied, TimedOut, Aborted, Deleted, Gone}
use Rattle.ready_maps.specs.Moves.{readied, unreadied}
use Rattle.ready_maps.specs.Sched.{is_ready}
use Rattle.rv_core.specs.Hart.{with_register}
use Rattle.soft_timers.specs.Laws.{Arm, CallsKeepRunning}
use Rattle.soft_timers.specs.Timers.{IsRunning, IsWheel, TimerTable, armed, armed_for, disarmed}
use Rattle.suspend_lists.specs.Waits.{IsTable, begun, ended as ended_wait, wait_of}
use Rattle.suspend_lists.specs.declared.wait.Asks.{Asks}
use Rattle.suspend_lists.specs.declared.wait.Asks.TheVariants.{Sleep}
use Rattle.suspend_lists.specs.declared.wait.Pending.{Pending}
use Rattle.suspend_lists.specs.declared.wait.Wait.{Wait}
use Rattle.kernel_state.specs.Contents.{IsAsked}
use Rattle.kernel_state.specs.Kernel.{thread, is_thread}
use Rattle.kernel_state.specs.Laws.{OneWaitChanges, WaitsChangeOnly}
use Rattle.kernel_state.specs.Readying.{made_ready}
use Rattle.kernel_state.specs.Scheduling.{ReadyChangesOne, UnreadyChangesOne}
use Rattle.kernel_state.specs.Sound.{IsSound, IsSoundBut, IsTimeoutOf, IsWaitOf}
use Rattle.kernel_state.specs.WaitLaws.{BeginKeepsSound, BeginRaisesOne, WaitEndKeepsSound}
use Rattle.kernel_state.specs.Waiting.{answer_of, gone_on, is_timed, left_wait, released, state_of_ask, suspended_at_last, wait_begun, with_answer_to}
use Rattle.kernel_state.specs.declared.kernel.Kernel.{Kernel}
use Rattle.kernel_state.proofs.Ends.{Below, left_changes_only, left_is_none, waiter_below, waiter_is_thread}
use Rattle.kernel_state.proofs.Making.{whole_slice}
use Rattle.kernel_state.proofs.Sound.{below_256, hart_changes, thread_of}
use Rattle.kernel_state.proofs.States.{ask_waits, none_if_rests, waits_if_some, waits_not_ready}
use Rattle.kernel_state.proofs.ThreadChanges.{ready_rests, unchanged}

-- the wheel once a wait of an ask has begun
abbrev timed_wheel : Kernel → ℕ → Asks → ℕ → TimerTable
timed_wheel k t asks ticks = cond (is_timed asks ticks) (armed_for k.wheel t ticks) k.wheel

begun_is : (k : Kernel) (t : ℕ) (w : Wait) → t < length k.waits.waits → wait_of (begun k.waits t w) t ≡ Some w
begun_is k t w inside =
    ap (option_map (λ (p : Pending). p.wait)) (get_or-set_same k.waits.waits t (Some (record { wait = w; number = k.waits.totals.begun })) None inside)

begun_others : (k : Kernel) (t u : ℕ) (w : Wait) → u ≢ t → wait_of (begun k.waits t w) u ≡ wait_of k.waits u
begun_others k t u w other =
    ap (option_map (λ (p : Pending). p.wait)) (get_or-set_other k.waits.waits t u (Some (record { wait = w; number = k.waits.totals.begun })) None other)

-- nothing is armed for a thread in no wait
none_armed : (but : List ℕ) (k : Kernel) (t : ℕ) → IsSoundBut but k → wait_of k.waits t ≡ None → armed k.wheel t ≡ None
none_armed but k t sound none = subst (λ o. IsTimeoutOf o (armed k.wheel t)) none (sound.formed.timeouts t)

begun_changes_only : Below → (but : List ℕ) (k : Kernel) (t : ℕ) (w : Wait) (ticks : ℕ) → IsSoundBut but k → t < 256 → wait_of k.waits t ≡ None
    → IsAsked k.objects k.queues k.semas w → IsTable (begun k.waits t w) → 0 < ticks → ticks < 2 ^ 32
    → WaitsChangeOnly k (begun k.waits t w) (timed_wheel k t w.asks ticks) t
begun_changes_only below but k t w ticks sound inside none right table later short =
    let free = none_armed but k t sound none in
    let here = begun_is k t w (omega (arith, sound.formed.waits.threads)) in
    record {
      waits = table;
      wheel = cond_both (is_timed w.asks ticks) (armed_for k.wheel t ticks) k.wheel IsWheel
          (λ _. below.keep_wheel k.wheel (Arm t ticks) sound.formed.wheel (free, omega arith, later, short)) (λ _. sound.formed.wheel);
      others = λ u other. begun_others k t u w other;
      other_timeouts = λ i other. cond_both (is_timed w.asks ticks) (armed_for k.wheel t ticks) k.wheel (λ h. armed h i ≡ armed k.wheel i)
          (λ _. below.spare_others k.wheel (Arm t ticks) i other) (λ _. refl);
      timeout = subst (λ o. IsTimeoutOf o (armed (timed_wheel k t w.asks ticks) t)) (sym here) (λ (sleeps : w.asks ≡ Sleep).
          let timed : is_timed w.asks ticks ≡ true = ap (λ asks. is_timed asks ticks) sleeps in
          subst (λ h. IsSome (armed h t)) (sym (cond-true (is_timed w.asks ticks) (armed_for k.wheel t ticks) k.wheel timed)) (below.armed k.wheel t ticks));
      asked = subst (λ o. IfSome o (IsAsked k.objects k.queues k.semas)) (sym here) right;
    }

pub begin_keeps_sound : OneWaitChanges → UnreadyChangesOne → Below → BeginKeepsSound
begin_keeps_sound changes unreadies below but k t w ticks sound live ready right table later short =
    let was = thread_of but k t sound live in
    let unready = unreadies k.ready t sound.formed.scheduler ready in
    let inside = below_256 k t sound.formed.slots live in
    let none = none_if_rests (thread k t).state (wait_of k.waits t) (ready_rests but k t sound live ready) was.wait in
    let asked = state_of_ask w.asks in
    changes but k t (record (thread k t) { state = asked }) (unreadied k.ready t) (begun k.waits t w) (timed_wheel k t w.asks ticks) sound live (record {
      «module» = refl;
      priority = refl;
      threshold = refl;
      others = unready.others;
      in_scheduler = unready.priority;
      threshold_in_scheduler = unready.threshold;
    }) (unready.ready ∙ sym (waits_not_ready asked (ask_waits w.asks))) was.slice (λ held. ask_waits w.asks)
    (subst (IsWaitOf asked) (sym (begun_is k t w (omega (arith, sound.formed.waits.threads)))) refl)
    (begun_changes_only below but k t w ticks sound inside none right table later short)

-- a timeout that is armed then has at least one tick left
pub begin_keeps_running : CallsKeepRunning → (k : Kernel) (t : ℕ) (w : Wait) (ticks : ℕ) → IsSound k → is_thread k t ≡ true → is_ready k.ready t ≡ true
    → 0 < ticks → ticks < 2 ^ 32 → IsRunning k.wheel → IsRunning (wait_begun k t w ticks).wheel
begin_keeps_running keeps k t w ticks sound live ready later short running =
    let was = thread_of [] k t sound live in
    let inside = below_256 k t sound.formed.slots live in
    let none = none_if_rests (thread k t).state (wait_of k.waits t) (ready_rests [] k t sound live ready) was.wait in
    cond_both (is_timed w.asks ticks) (armed_for k.wheel t ticks) k.wheel IsRunning
    (λ _. keeps k.wheel (Arm t ticks) (none_armed [] k t sound none, omega arith, later, short) running) (λ _. running)

-- a thread that left its wait goes on
gone_on_sound : OneWaitChanges → ReadyChangesOne → Below → (but : List ℕ) (k : Kernel) (t : ℕ) (e : End) → IsSoundBut but k → IsSome (wait_of k.waits t)
    → IsSoundBut but (gone_on (left_wait k t e) t)
gone_on_sound changes readies below but k t e sound some =
    let live = waiter_is_thread but k t sound some in
    let inside = waiter_below but k t sound some in
    let was = thread_of but k t sound live in
    let waits = waits_if_some (thread k t).state (wait_of k.waits t) some was.wait in
    let absent : is_ready k.ready t ≡ false = was.ready ∙ waits_not_ready (thread k t).state waits in
    let only = left_changes_only below but k t e sound some in
    let none = left_is_none k t e (omega (arith, sound.formed.waits.threads)) in
    let ready = readies k.ready t sound.formed.scheduler inside absent in
    cond_both (thread k t).held (suspended_at_last (left_wait k t e) t) (made_ready (left_wait k t e) t) (IsSoundBut but)
    (λ held. changes but k t (record (thread k t) { state = Suspended; held = false }) k.ready (ended_wait k.waits t e) (disarmed k.wheel t) sound live
    (record {
      «module» = refl;
      priority = refl;
      threshold = refl;
      others = unchanged but k t sound;
      in_scheduler = refl;
      threshold_in_scheduler = refl;
    }) absent was.slice (λ is_held. absurd (false≢true is_held)) (subst (IsWaitOf Suspended) (sym none) refl) only)
    (λ free. changes but k t (record (thread k t) { state = Ready; left = (thread k t).slice }) (readied k.ready t) (ended_wait k.waits t e)
    (disarmed k.wheel t) sound live (record {
      «module» = refl;
      priority = refl;
      threshold = refl;
      others = ready.others;
      in_scheduler = ready.priority;
      threshold_in_scheduler = ready.threshold;
    }) ready.ready (whole_slice (thread k t).slice) (λ is_held. absurd (false≢true (sym free ∙ is_held))) (subst (IsWaitOf Ready) (sym none) refl) only)

goes_on : (j : Kernel) (t : ℕ) (e : End) (P : Kernel → Type 0) → e ≢ Gone → P (gone_on j t) → P (released j t e)
goes_on j t Satisfied P stays on = on
goes_on j t TimedOut P stays on = on
goes_on j t Aborted P stays on = on
goes_on j t Deleted P stays on = on
goes_on j t Gone P stays on = absurd (stays refl)

answered_sound : OneWaitChanges → ReadyChangesOne → Below → (but : List ℕ) (k : Kernel) (t : ℕ) (e : End) (a : Option ℕ) → IsSoundBut but k
    → IsSome (wait_of k.waits t)
    → e ≢ Gone → IsSoundBut but (released (with_answer_to (left_wait k t e) t a) t e)
answered_sound changes readies below but k t e None sound some stays =
    goes_on (left_wait k t e) t e (IsSoundBut but) stays (gone_on_sound changes readies below but k t e sound some)
answered_sound changes readies below but k t e (Some a0) sound some stays =
    let answered = with_answer_to k t (Some a0) in
    let right = hart_changes but k t (with_register (thread k t).hart 10 a0) sound (waiter_below but k t sound some) in
    goes_on (left_wait answered t e) t e (IsSoundBut but) stays (gone_on_sound changes readies below but answered t e right some)

pub wait_end_keeps_sound : OneWaitChanges → ReadyChangesOne → Below → WaitEndKeepsSound
wait_end_keeps_sound changes readies below but k g t e value sound some stays =
    answered_sound changes readies below but k t e (answer_of (wait_of k.waits t) e) sound some stays

pub begin_raises_one : BeginRaisesOne
begin_raises_one k t w ticks =
    let armings : (timed_wheel k t w.asks ticks).armings ≤ k.wheel.armings + 1 =
    cond_both (is_timed w.asks ticks) (armed_for k.wheel t ticks) k.wheel (λ (h : TimerTable). h.armings ≤ k.wheel.armings + 1) (λ _. omega arith)
    (λ _. omega arith) in
    let ticks_stay : (timed_wheel k t w.asks ticks).ticks ≡ k.wheel.ticks =
    cond_both (is_timed w.asks ticks) (armed_for k.wheel t ticks) k.wheel (λ (h : TimerTable). h.ticks ≡ k.wheel.ticks) (λ _. refl) (λ _. refl) in
    record { begun = omega arith; armings = armings; ticks = omega (arith, ticks_stay) }
