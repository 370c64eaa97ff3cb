-- A tick keeps a kernel serving: each turn does, and so does the treatment of the time slice.
use Rattle.std.proofs.Common.{◌≡◌, ◌≢◌, ℕ, ◌-◌, ◌<◌, ◌≤◌, ◌==◌, ◌&&◌, true, false, nat_lt, List, [], ◌∷◌, Option, None, Some, IsSome, refl, sym, ap, ◌∙◌, subst, ⊎_elim, inr, arith}
use Rattle.std.specs.Option.{option_map, option_map_or}
use Rattle.std.proofs.lemmas.Bool.{and_parts, cond_both, eqb-true, eqb-false, false≢true, ltb-true, ltb-false}
use Rattle.tx_types.specs.declared.waits.End.TheVariants.{TimedOut, Gone}
use Rattle.ready_maps.specs.Moves.{yielded}
use Rattle.region_guard.specs.Memory.{Memory}
use Rattle.soft_timers.specs.Laws.{Disarm, IsRunningBut, CallsAddNone, DisarmedIsOver, NoneIsRunning, TicksKeepTheWheel, TicksLeaveTheDue, TurnsTakeOne}
use Rattle.soft_timers.specs.Timers.{IsRunning, TimerTable, armed, disarmed, due_now, still, ticked}
use Rattle.soft_timers.specs.declared.due.Armed.{Armed}
use Rattle.suspend_lists.specs.Waits.{WaitTable, wait_of}
use Rattle.suspend_lists.specs.declared.wait.Wait.{Wait}
use Rattle.kernel_state.specs.Change.{Change, quiet}
use Rattle.kernel_state.specs.Kernel.{thread}
use Rattle.kernel_state.specs.Laws.{OneStateChanges}
use Rattle.kernel_state.specs.Room.{HasRoom, RaisesCounts}
use Rattle.kernel_state.specs.Scheduling.{YieldChangesNone}
use Rattle.kernel_state.specs.Sound.{IsSound, IsSlice, IsTimeoutOf}
use Rattle.kernel_state.specs.Ticks.{expired, has_slice, runs, slice_treated, slice_used, tick_counted, turn, turns, with_left}
use Rattle.kernel_state.specs.WaitLaws.{TickKeepsServing, TickRaisesOne, WaitEndKeepsSound}
use Rattle.kernel_state.specs.Waiting.{wait_ended}
use Rattle.kernel_state.specs.declared.kernel.Kernel.{Kernel}
use Rattle.kernel_state.proofs.Ends.{Below, none_past, wait_end_raises_none, wait_ended-due, wait_ended-wheel}
use Rattle.kernel_state.proofs.Making.{whole_slice}
use Rattle.kernel_state.proofs.Promises.{AreKept, wait_end_keeps_promises}
use Rattle.kernel_state.proofs.Running.{running_is_ready, ready_is_thread}
use Rattle.kernel_state.proofs.Sound.{thread_of, time_changes}
use Rattle.kernel_state.proofs.ThreadChanges.{unchanged}

-- the laws that turns and slices stand on
pub record Lower : Type 0 where
  pub below : Below
  pub ends : WaitEndKeepsSound
  pub changes : OneStateChanges
  pub yields : YieldChangesNone
  pub add_none : CallsAddNone
  pub over : DisarmedIsOver
  pub take_one : TurnsTakeOne
  pub none_running : NoneIsRunning
  pub tick : TicksKeepTheWheel
  pub leave_due : TicksLeaveTheDue

-- what is still armed is armed, and so is the timeout of a thread that waits
pub still_armed : (o : Option Armed) (n : ℕ) → option_map_or (λ m. m == n) (option_map (λ e. e.arming) o) false ≡ true → IsSome o
still_armed None n is = absurd (false≢true is)
still_armed (Some e) n is = refl

pub armed_waits : (k : Kernel) (id : ℕ) → IsSound k → IsSome (armed k.wheel id) → IsSome (wait_of k.waits id)
armed_waits k id sound some = by (wait_of k.waits id) (sound.formed.timeouts id) where
  by : (o : Option Wait) → IsTimeoutOf o (armed k.wheel id) → IsSome o
  by None none = absurd (false≢true (subst IsSome none some))
  by (Some w) right = refl

-- no timer object is armed
pub armed_below : (k : Kernel) (id : ℕ) → IsSound k → IsSome (armed k.wheel id) → nat_lt id 256 ≡ false → ⊥
armed_below k id sound some past =
    false≢true (subst IsSome (none_past k.waits id (omega (arith, sound.formed.waits.threads, ltb-false id 256 past))) (armed_waits k id sound some))

pub not_gone : TimedOut ≢ Gone
not_gone same = cc

-- an entry at its turn: none, or the end of a wait
pub by_turn : (k : Kernel) (g : Memory) (d : Armed) (P : Change → Type 0) → IsSound k
    → (still k.wheel d ≡ false → P (quiet k g))
    → (still k.wheel d ≡ true → IsSome (wait_of k.waits d.id) → P (wait_ended k g d.id TimedOut []))
    → P (turn k g d)
by_turn k g d P sound over ends =
    cond_both (still k.wheel d) (expired k g d.id) (quiet k g) P
    (λ is. let some = still_armed (armed k.wheel d.id) d.arming is in
    cond_both (nat_lt d.id 256) (wait_ended k g d.id TimedOut []) (quiet k g) P
    (λ _. ends is (armed_waits k d.id sound some)) (λ past. absurd (armed_below k d.id sound some past)))
    over

pub turn_sound : WaitEndKeepsSound → (k : Kernel) (g : Memory) (d : Armed) → IsSound k → IsSound (turn k g d).kernel
turn_sound ends k g d sound =
    by_turn k g d (λ (c : Change). IsSound c.kernel) sound (λ _. sound) (λ _ some. ends [] k g d.id TimedOut [] sound some not_gone)

turn_running : Lower → (k : Kernel) (g : Memory) (d : Armed) (ds : List Armed) → IsSound k → IsRunningBut (d ∷ ds) k.wheel
    → IsRunningBut ds (turn k g d).kernel.wheel
turn_running lower k g d ds sound running =
    by_turn k g d (λ (c : Change). IsRunningBut ds c.kernel.wheel) sound
    (λ over. lower.take_one k.wheel d ds sound.formed.wheel over running)
    (λ _ some. subst (IsRunningBut ds) (sym (wait_ended-wheel k g d.id TimedOut []))
    (lower.take_one (disarmed k.wheel d.id) d ds (lower.below.keep_wheel k.wheel (Disarm d.id) sound.formed.wheel tt) (lower.over k.wheel d)
    (lower.add_none k.wheel (d ∷ ds) (Disarm d.id) tt running)))

pub turn_due : (k : Kernel) (g : Memory) (d : Armed) → (turn k g d).kernel.due ≡ k.due
turn_due k g d =
    cond_both (still k.wheel d) (expired k g d.id) (quiet k g) (λ (c : Change). c.kernel.due ≡ k.due)
    (λ _. cond_both (nat_lt d.id 256) (wait_ended k g d.id TimedOut []) (quiet k g) (λ (c : Change). c.kernel.due ≡ k.due)
    (λ _. wait_ended-due k g d.id TimedOut []) (λ _. refl))
    (λ _. refl)

turns_sound : Lower → (ds : List Armed) (k : Kernel) (g : Memory) → IsSound k → IsRunningBut ds k.wheel
    → IsSound (turns ds k g).kernel × IsRunning (turns ds k g).kernel.wheel
turns_sound lower [] k g sound running = (sound, lower.none_running k.wheel running)
turns_sound lower (d ∷ ds) k g sound running =
    turns_sound lower ds (turn k g d).kernel (turn k g d).memory (turn_sound lower.ends k g d sound) (turn_running lower k g d ds sound running)

-- each turn leaves what is promised
turn_keeps_promises : (k : Kernel) (g : Memory) (d : Armed) → AreKept k g → AreKept (turn k g d).kernel (turn k g d).memory
turn_keeps_promises k g d promised =
    cond_both (still k.wheel d) (expired k g d.id) (quiet k g) (λ (c : Change). AreKept c.kernel c.memory)
    (λ _. cond_both (nat_lt d.id 256) (wait_ended k g d.id TimedOut []) (quiet k g) (λ (c : Change). AreKept c.kernel c.memory)
    (λ _. wait_end_keeps_promises k g d.id TimedOut [] promised) (λ _. promised))
    (λ _. promised)

turns_keep_promises : (ds : List Armed) (k : Kernel) (g : Memory) → AreKept k g → AreKept (turns ds k g).kernel (turns ds k g).memory
turns_keep_promises [] k g promised = promised
turns_keep_promises (d ∷ ds) k g promised = turns_keep_promises ds (turn k g d).kernel (turn k g d).memory (turn_keeps_promises k g d promised)

-- the time slice of the running thread
runs_is : (o : Option ℕ) (t : ℕ) → option_map_or (λ u. u == t) o false ≡ true → o ≡ Some t
runs_is None t is = absurd (false≢true is)
runs_is (Some u) t is = ap Some (eqb-true u t is)

pub some_left : (slice left : ℕ) → 0 < slice → IsSlice slice left → (1 ≤ left) × (left ≤ slice)
some_left slice left some right = ⊎_elim (λ none. absurd (omega (arith, none.0))) (λ part. part) right

-- a thread that runs with a time slice has some of it left
pub slice_left : (k : Kernel) (t : ℕ) → IsSound k → k.ready.run ≡ Some t → has_slice (thread k t) ≡ true → 0 < (thread k t).left
slice_left k t sound is has =
    let live = ready_is_thread k t sound (running_is_ready k t sound is) in
    let slice = and_parts (nat_lt 0 (thread k t).slice) ((thread k t).threshold == (thread k t).priority) has in
    let left = some_left (thread k t).slice (thread k t).left (ltb-true 0 (thread k t).slice slice.0) (thread_of [] k t sound live).slice in
    omega (arith, left.0)

slice_used_sound : Lower → (k : Kernel) (t : ℕ) → IsSound k → k.ready.run ≡ Some t → 0 < (thread k t).slice → IsSound (slice_used k t)
slice_used_sound lower k t sound is some =
    let ready = running_is_ready k t sound is in
    let live = ready_is_thread k t sound ready in
    let was = thread_of [] k t sound live in
    let left = some_left (thread k t).slice (thread k t).left some was.slice in
    let yield = lower.yields k.ready t sound.formed.scheduler (subst IsSome (sym is) refl) in
    cond_both ((thread k t).left - 1 == 0) (record (with_left k t (thread k t).slice) { ready = yielded k.ready })
    (with_left k t ((thread k t).left - 1)) IsSound
    (λ _. lower.changes [] k t (record (thread k t) { left = (thread k t).slice }) (yielded k.ready) sound live (record {
      «module» = refl;
      priority = refl;
      threshold = refl;
      others = yield.others;
      in_scheduler = yield.priority;
      threshold_in_scheduler = yield.threshold;
    }) (yield.ready ∙ was.ready) (whole_slice (thread k t).slice) was.held was.wait)
    (λ more. lower.changes [] k t (record (thread k t) { left = (thread k t).left - 1 }) k.ready sound live (record {
      «module» = refl;
      priority = refl;
      threshold = refl;
      others = unchanged [] k t sound;
      in_scheduler = refl;
      threshold_in_scheduler = refl;
    }) was.ready (less_left (thread k t).slice (thread k t).left left.0 left.1 (eqb-false ((thread k t).left - 1) 0 more)) was.held was.wait) where
      less_left : (slice left : ℕ) → 1 ≤ left → left ≤ slice → left - 1 ≢ 0 → IsSlice slice (left - 1)
      less_left slice left least most more = inr (omega (arith, more), omega arith)

pub slice_treated_sound : Lower → (ran : Option ℕ) (k : Kernel) → IsSound k → IsSound (slice_treated ran k)
slice_treated_sound lower None k sound = sound
slice_treated_sound lower (Some t) k sound =
    cond_both (runs k t && has_slice (thread k t)) (slice_used k t) k IsSound
    (λ both. let parts = and_parts (runs k t) (has_slice (thread k t)) both in
    let slice = and_parts (nat_lt 0 (thread k t).slice) ((thread k t).threshold == (thread k t).priority) parts.1 in
    slice_used_sound lower k t sound (runs_is k.ready.run t parts.0) (ltb-true 0 (thread k t).slice slice.0))
    (λ _. sound)

-- it leaves waits and timeouts
pub slice_treated_part : {X : Type 0} (part : Kernel → X) → ((k : Kernel) (now : Kernel) → now.waits ≡ k.waits → now.wheel ≡ k.wheel → part now ≡ part k)
    → (ran : Option ℕ) (k : Kernel) → part (slice_treated ran k) ≡ part k
slice_treated_part part stays None k = refl
slice_treated_part part stays (Some t) k =
    cond_both (runs k t && has_slice (thread k t)) (slice_used k t) k (λ j. part j ≡ part k)
    (λ _. cond_both ((thread k t).left - 1 == 0) (record (with_left k t (thread k t).slice) { ready = yielded k.ready }) (with_left k t ((thread k t).left - 1))
    (λ j. part j ≡ part k)
    (λ _. stays k (record (with_left k t (thread k t).slice) { ready = yielded k.ready }) refl refl)
    (λ _. stays k (with_left k t ((thread k t).left - 1)) refl refl))
    (λ _. refl)

slice_keeps_promises : (ran : Option ℕ) (k : Kernel) (g : Memory) → AreKept k g → AreKept (slice_treated ran k) g
slice_keeps_promises None k g promised = promised
slice_keeps_promises (Some t) k g promised =
    cond_both (runs k t && has_slice (thread k t)) (slice_used k t) k (λ j. AreKept j g)
    (λ _. cond_both ((thread k t).left - 1 == 0) (record (with_left k t (thread k t).slice) { ready = yielded k.ready }) (with_left k t ((thread k t).left - 1))
    (λ j. AreKept j g)
    (λ _. promised) (λ _. promised))
    (λ _. promised)

pub counted_sound : TicksKeepTheWheel → (k : Kernel) → IsSound k → IsRunning k.wheel → HasRoom k → IsSound (tick_counted k)
counted_sound tick k sound running room =
    time_changes [] k (ticked k.wheel) _ (due_now (ticked k.wheel)) sound (tick k.wheel sound.formed.wheel running (omega (arith, room.ticks))) (λ i. refl)

pub tick_keeps_serving : Lower → TickKeepsServing
tick_keeps_serving lower k g serves room =
    let counted = tick_counted k in
    let all = turns_sound lower counted.due counted g (counted_sound lower.tick k serves.sound serves.running room) (lower.leave_due k.wheel serves.running) in
    let after = (turns counted.due counted g).kernel in
    let cleared : Kernel = record after { due = [] } in
    let sound = time_changes [] after after.wheel after.clock [] all.0 all.0.formed.wheel (λ i. refl) in
    record {
      sound = slice_treated_sound lower k.ready.run cleared sound;
      running = subst IsRunning (sym (slice_treated_part (λ j. j.wheel) (λ _ _ _ wheel. wheel) k.ready.run cleared)) all.1;
      promised = slice_keeps_promises k.ready.run cleared (turns counted.due counted g).memory (turns_keep_promises counted.due counted g serves.promised);
    }

-- counts
turns_counts : (ds : List Armed) (k : Kernel) (g : Memory) → RaisesCounts 0 k (turns ds k g).kernel
turns_counts [] k g = record { begun = omega arith; armings = omega arith; ticks = omega arith }
turns_counts (d ∷ ds) k g =
    let one = turn_counts k g d in
    let rest = turns_counts ds (turn k g d).kernel (turn k g d).memory in
    record {
      begun = omega (arith, one.begun, rest.begun);
      armings = omega (arith, one.armings, rest.armings);
      ticks = omega (arith, one.ticks, rest.ticks);
    } where
      turn_counts : (k : Kernel) (g : Memory) (d : Armed) → RaisesCounts 0 k (turn k g d).kernel
      turn_counts k g d =
          let none : RaisesCounts 0 k k = record { begun = omega arith; armings = omega arith; ticks = omega arith } in
          cond_both (still k.wheel d) (expired k g d.id) (quiet k g) (λ (c : Change). RaisesCounts 0 k c.kernel)
          (λ _. cond_both (nat_lt d.id 256) (wait_ended k g d.id TimedOut []) (quiet k g) (λ (c : Change). RaisesCounts 0 k c.kernel)
          (λ _. wait_end_raises_none k g d.id TimedOut []) (λ _. none))
          (λ _. none)

pub tick_raises_one : TickRaisesOne
tick_raises_one k g =
    let counted = tick_counted k in
    let all = turns_counts counted.due counted g in
    let cleared : Kernel = record (turns counted.due counted g).kernel { due = [] } in
    let waits : (slice_treated k.ready.run cleared).waits ≡ cleared.waits = slice_treated_part (λ j. j.waits) (λ _ _ same _. same) k.ready.run cleared in
    let wheel : (slice_treated k.ready.run cleared).wheel ≡ cleared.wheel = slice_treated_part (λ j. j.wheel) (λ _ _ _ same. same) k.ready.run cleared in
    record {
      begun = omega (arith, all.begun, ap (λ (w : WaitTable). w.totals.begun) waits);
      armings = omega (arith, all.armings, ap (λ (h : TimerTable). h.armings) wheel);
      ticks = omega (arith, all.ticks, ap (λ (h : TimerTable). h.ticks) wheel);
    }
