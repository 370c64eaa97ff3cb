-- A kernel is sound where another was, if each number looks the same or is right; so it is where one thread, or one slot, changes.
use Rattle.std.proofs.Common.{◌≡◌, ◌≢◌, ℕ, ◌<◌, ◌≤◌, ◌%◌, Bool, true, false, min, List, [], length, Option, IfSome, refl, sym, ap, ◌∙◌, subst, ⊎_elim, inl, inr, arith}
use Rattle.std.proofs.lemmas.Bool.{cases_eq, cases_lt, false≢true}
use Rattle.std.proofs.lemmas.List.{get_or-set_same, get_or-set_other, get_or_past, length-set}
use Rattle.tx_types.specs.declared.state.State.TheVariants.{Ready}
use Rattle.tx_types.specs.declared.kind.Kind.TheVariants.{Thread as ThreadKind, Queue as QueueKind, Semaphore as SemaphoreKind}
use Rattle.msg_queues.specs.Entry.{Queue}
use Rattle.object_grants.specs.Table.{slot, with_slot}
use Rattle.object_grants.specs.Slot.{free_slot}
use Rattle.object_grants.specs.declared.slot.Slot.{Slot}
use Rattle.ready_maps.specs.Sched.{Sched, has}
use Rattle.rv_core.specs.Hart.{HartState}
use Rattle.soft_timers.specs.Timers.{IsWheel, TimerTable, armed}
use Rattle.soft_timers.specs.declared.due.Armed.{Armed}
use Rattle.suspend_lists.specs.Waits.{WaitTable, wait_of}
use Rattle.kernel_state.specs.Contents.{AreAsked, AreContents, IsAsked}
use Rattle.kernel_state.specs.Kernel.{thread, with_thread, has_thread, is_thread, module_of, spot, with_spot, effective_priority, effective_threshold}
use Rattle.kernel_state.specs.Laws.{AreAlike, EntryStays, IsRight, SoundFrom, EffectiveStays, EffectiveFits, with_all, WaitsChangeOnly, Suits, OneThreadChanges, OneStateChanges, OneWaitChanges, OneHartChanges, OneSlotChanges, OneSpotChanges, ThreadIsRight}
use Rattle.kernel_state.specs.Scheduling.{ChangesOnly}
use Rattle.kernel_state.specs.Sound.{IsSound, IsSettled, IsSoundBut, IsThread, IsEntry, IsSpot, IsSlice, IsClean, IsTimeoutOf, IsWaitOf}
use Rattle.kernel_state.specs.Spot.{blank_spot}
use Rattle.kernel_state.specs.Thread.{blank_thread, is_waiting, is_state}
use Rattle.kernel_state.specs.declared.kernel.Kernel.{Kernel}
use Rattle.kernel_state.specs.declared.spot.Spot.{Spot}
use Rattle.kernel_state.specs.declared.thread.Thread.{Thread}
use Rattle.kernel_state.proofs.Contents.{of_some, contents_by_kinds, asked_by_kinds, kind_stays, slot_keeps_kinds, slot_set}

pub effective_stays : EffectiveStays
unfolding effective_priority effective_threshold
effective_stays k now t priority =
    (priority, λ threshold. ap (λ n. min n (thread now t).priority) threshold ∙ ap (λ n. min (thread k t).threshold n) priority)

pub effective_fits : EffectiveFits
unfolding effective_priority effective_threshold
effective_fits k t level = (omega arith, level)

-- entries that are equal are alike
pub alike_if_same : (a b : Thread) → b ≡ a → AreAlike a b
alike_if_same a b same = record {
  «module» = ap (λ (x : Thread). x.module) same;
  state = ap (λ (x : Thread). x.state) same;
  priority = ap (λ (x : Thread). x.priority) same;
  threshold = ap (λ (x : Thread). x.threshold) same;
  slice = ap (λ (x : Thread). x.slice) same;
  left = ap (λ (x : Thread). x.left) same;
  held = ap (λ (x : Thread). x.held) same;
}

-- what is a thread has a number below 256
pub below_256 : (k : Kernel) (t : ℕ) → length k.objects ≡ 256 → is_thread k t ≡ true → t < 256
below_256 k t size live = ⊎_elim (λ below. below) (λ past.
    absurd (false≢true (sym (ap has_thread (get_or_past k.objects t (free_slot 0) (omega (arith, size)))) ∙ live))) (cases_lt t 256)

right_of : (but : List ℕ) (k : Kernel) (u : ℕ) → IsSoundBut but k → u < 256 → IsRight but k u
right_of but k u sound below = record { entry = sound.formed.entries u below; settled = sound.settled u }

-- what holds of a thread of a sound kernel
pub thread_of : (but : List ℕ) (k : Kernel) (t : ℕ) → IsSoundBut but k → is_thread k t ≡ true → IsThread k t
thread_of but k t sound live = subst (IsEntry k t) live (sound.formed.entries t (below_256 k t sound.formed.slots live))

pub thread_is_right : ThreadIsRight
thread_is_right k t sound live =
    let below = below_256 k t sound.formed.slots live in (below, right_of [] k t sound below)

-- a number that looks the same is as right as it was
thread_stays : (k now : Kernel) (u : ℕ) → now.ready.levels ≡ k.ready.levels → EntryStays k now u → is_thread k u ≡ true → IsThread k u → IsThread now u
thread_stays k now u levels same live sound =
    let alike = same.alike in
    record {
      owner = alike.module ∙ (sound.owner ∙ sym (same.owner live));
      ready = same.ready ∙ (sound.ready ∙ ap (λ s. is_state s Ready) (sym alike.state));
      priority = omega (arith, sound.priority, alike.priority, levels);
      threshold = omega (arith, sound.threshold, alike.threshold, alike.priority);
      slice = subst (λ n. IsSlice n (thread now u).left) (sym alike.slice) (subst (IsSlice (thread k u).slice) (sym alike.left) sound.slice);
      held = λ held. subst (λ s. is_waiting s ≡ true) (sym alike.state) (sound.held (sym alike.held ∙ held));
      wait = subst (λ s. IsWaitOf s (wait_of now.waits u)) (sym alike.state) (subst (IsWaitOf (thread k u).state) (sym same.wait) sound.wait);
    }

entry_stays : (k now : Kernel) (u : ℕ) (b : Bool) → now.ready.levels ≡ k.ready.levels → EntryStays k now u → is_thread k u ≡ b → IsEntry k u b → IsEntry now u b
entry_stays k now u true levels same live sound = thread_stays k now u levels same live sound
entry_stays k now u false levels same live sound = (same.ready ∙ sound.0, same.wait ∙ sound.1)

right_stays : (but : List ℕ) (k now : Kernel) (u : ℕ) → now.ready.levels ≡ k.ready.levels → EntryStays k now u → IsRight but k u → IsRight but now u
right_stays but k now u levels same right =
    let effective = effective_stays k now u same.alike.priority in
    record {
      entry = subst (IsEntry now u) (sym same.live) (entry_stays k now u (is_thread k u) levels same refl right.entry);
      settled = λ live outside.
          let was = right.settled (sym same.live ∙ live) outside in
          record {
            priority = same.priority ∙ (was.priority ∙ sym effective.0);
            threshold = same.threshold ∙ (was.threshold ∙ sym (effective.1 same.alike.threshold));
          };
    }

pub sound_from : SoundFrom
sound_from but k now sound from =
    let slots = from.slots ∙ sound.formed.slots in
    let right = λ (u : ℕ) (below : u < 256). ⊎_elim {C = IsRight but now u}
    (λ same. right_stays but k now u from.levels same (right_of but k u sound below)) (λ itself. itself) (from.entries u below) in
    record {
      formed = record {
        scheduler = from.scheduler;
        slots = slots;
        threads = from.threads ∙ sound.formed.threads;
        spots = from.spots ∙ sound.formed.spots;
        waits = from.waits;
        wheel = from.wheel;
        clean = from.clean;
        contents = from.contents;
        asked = from.asked;
        entries = λ u below. (right u below).entry;
        timeouts = from.timeouts;
        places = from.places;
      };
      settled = λ u live outside. (right u (below_256 now u slots live)).settled live outside;
    }

-- a spot stays right where its module's callback thread stays one of that module's
pub spot_stays : (k now : Kernel) (m : ℕ) → spot now m ≡ spot k m
    → ((c : ℕ) → c < 256 → is_thread k c ≡ true → module_of k c ≡ m → (is_thread now c ≡ true) × (module_of now c ≡ m))
    → IsSpot k m (spot k m) → IsSpot now m (spot now m)
spot_stays k now m same stays sound = record {
  shell = ap (λ (s : Spot). s.shell % 4) same ∙ sound.shell;
  callback = subst (λ (s : Spot). IfSome s.callback (λ t. (t < 256) × (is_thread now t ≡ true) × (module_of now t ≡ m))) (sym same)
      (of_some (spot k m).callback _ _ (λ c h. let after = stays c h.0 h.1 h.2 in (h.0, after.0, after.1)) sound.callback);
}

-- a thread that isn't the one that changes
other_stays : (k : Kernel) (t u : ℕ) (now : Thread) (s : Sched) (w : WaitTable) (h : TimerTable) → ChangesOnly k.ready s t → WaitsChangeOnly k w h t → u ≢ t
    → EntryStays k (with_all k t now s w h) u
other_stays k t u now s w h changes waits other = record {
  live = refl;
  alike = alike_if_same (thread k u) (thread (with_all k t now s w h) u) (get_or-set_other k.threads t u now blank_thread other);
  owner = λ _. refl;
  ready = changes.ready u other;
  priority = changes.priority u other;
  threshold = changes.threshold u other;
  wait = waits.others u other;
}

-- waits and timeouts as they were
pub same_waits : (but : List ℕ) (k : Kernel) (t : ℕ) → IsSoundBut but k → WaitsChangeOnly k k.waits k.wheel t
same_waits but k t sound = record {
  waits = sound.formed.waits;
  wheel = sound.formed.wheel;
  others = λ u other. refl;
  other_timeouts = λ i other. refl;
  timeout = sound.formed.timeouts t;
  asked = sound.formed.asked t;
}

-- each timeout is right where that of one thread is
timeouts_right : (but : List ℕ) (k : Kernel) (t : ℕ) (w : WaitTable) (h : TimerTable) → IsSoundBut but k → WaitsChangeOnly k w h t → (i : ℕ)
    → IsTimeoutOf (wait_of w i) (armed h i)
timeouts_right but k t w h sound waits i =
    ⊎_elim (λ (same : i ≡ t). subst (λ n. IsTimeoutOf (wait_of w n) (armed h n)) (sym same) waits.timeout)
    (λ (other : i ≢ t). subst (λ o. IsTimeoutOf o (armed h i)) (sym (waits.others i other))
    (subst (IsTimeoutOf (wait_of k.waits i)) (sym (waits.other_timeouts i other)) (sound.formed.timeouts i)))
    (cases_eq i t)

-- what each wait asks is right where what that of one thread asks is
all_asked : (but : List ℕ) (k : Kernel) (t : ℕ) (w : WaitTable) (h : TimerTable) → IsSoundBut but k → WaitsChangeOnly k w h t
    → AreAsked k.objects k.queues k.semas w
all_asked but k t w h sound waits i =
    ⊎_elim (λ (same : i ≡ t). subst (λ n. IfSome (wait_of w n) (IsAsked k.objects k.queues k.semas)) (sym same) waits.asked)
    (λ (other : i ≢ t). subst (λ o. IfSome o (IsAsked k.objects k.queues k.semas)) (sym (waits.others i other)) (sound.formed.asked i))
    (cases_eq i t)

-- no thread changes its module
modules_stay : (k : Kernel) (t u : ℕ) (now : Thread) → t < length k.threads → now.module ≡ module_of k t → module_of (with_thread k t now) u ≡ module_of k u
modules_stay k t u now size own = ⊎_elim
    (λ (same : u ≡ t). subst (λ n. module_of (with_thread k t now) n ≡ module_of k n) (sym same)
    (ap (λ (x : Thread). x.module) (get_or-set_same k.threads t now blank_thread size) ∙ own))
    (λ (other : u ≢ t). ap (λ (x : Thread). x.module) (get_or-set_other k.threads t u now blank_thread other)) (cases_eq u t)

-- one thread changes, and with it the scheduler, waits and timeouts
one_changes : (but : List ℕ) (k : Kernel) (t : ℕ) (now : Thread) (s : Sched) (w : WaitTable) (h : TimerTable) → IsSoundBut but k → is_thread k t ≡ true
    → now.module ≡ module_of k t → ChangesOnly k.ready s t → WaitsChangeOnly k w h t → Suits s (wait_of w t) t now
    → (has t but ≡ false → IsSettled (with_all k t now s w h) t) → IsSoundBut but (with_all k t now s w h)
one_changes but k t now s w h sound live own changes waits suits settled =
    let after = with_all k t now s w h in
    let below = below_256 k t sound.formed.slots live in
    let size : t < length k.threads = omega (arith, sound.formed.threads) in
    let here : thread after t ≡ now = get_or-set_same k.threads t now blank_thread size in
    let was = thread_of but k t sound live in
    let facts : IsThread after t = record {
      owner = ap (λ (x : Thread). x.module) here ∙ (own ∙ was.owner);
      ready = suits.ready ∙ sym (ap (λ (x : Thread). is_state x.state Ready) here);
      priority = subst (λ (x : Thread). x.priority < s.levels) (sym here) suits.priority;
      threshold = subst (λ (x : Thread). x.threshold ≤ x.priority) (sym here) suits.threshold;
      slice = subst (λ (x : Thread). IsSlice x.slice x.left) (sym here) suits.slice;
      held = subst (λ (x : Thread). x.held ≡ true → is_waiting x.state ≡ true) (sym here) suits.held;
      wait = subst (λ (x : Thread). IsWaitOf x.state (wait_of w t)) (sym here) suits.wait;
    } in
    let itself : IsRight but after t = record { entry = subst (IsEntry after t) (sym live) facts; settled = λ _ outside. settled outside } in
    sound_from but k after sound (record {
      scheduler = changes.kept;
      levels = changes.levels;
      slots = refl;
      threads = length-set k.threads t now;
      spots = refl;
      waits = waits.waits;
      wheel = waits.wheel;
      clean = sound.formed.clean;
      contents = sound.formed.contents;
      asked = all_asked but k t w h sound waits;
      entries = λ u u_below. ⊎_elim (λ (same : u ≡ t). inr (subst (IsRight but after) (sym same) itself))
          (λ (other : u ≢ t). inl (other_stays k t u now s w h changes waits other)) (cases_eq u t);
      timeouts = timeouts_right but k t w h sound waits;
      places = λ m m_below. spot_stays k after m refl (λ c c_below is_one of_m. (is_one, modules_stay k t c now size own ∙ of_m))
          (sound.formed.places m m_below);
    })

pub one_thread_changes : OneThreadChanges
one_thread_changes but k t now s sound live own changes suits settled =
    one_changes but k t now s k.waits k.wheel sound live own changes (same_waits but k t sound) suits settled

pub one_wait_changes : OneWaitChanges
one_wait_changes but k t now s w h sound live keeps ready slice held wait waits =
    let was = thread_of but k t sound live in
    let after = with_all k t now s w h in
    let below = below_256 k t sound.formed.slots live in
    let here : thread after t ≡ now = get_or-set_same k.threads t now blank_thread (omega (arith, sound.formed.threads)) in
    let effective = effective_stays k after t (ap (λ (x : Thread). x.priority) here ∙ keeps.priority) in
    one_changes but k t now s w h sound live keeps.module keeps.others waits (record {
      ready = ready;
      priority = omega (arith, was.priority, keeps.priority, keeps.others.levels);
      threshold = omega (arith, was.threshold, keeps.priority, keeps.threshold);
      slice = slice;
      held = held;
      wait = wait;
    }) (λ outside.
    let settled = sound.settled t live outside in
    record {
      priority = keeps.in_scheduler ∙ (settled.priority ∙ sym effective.0);
      threshold = keeps.threshold_in_scheduler ∙ (settled.threshold ∙ sym (effective.1 (ap (λ (x : Thread). x.threshold) here ∙ keeps.threshold)));
    })

pub one_state_changes : OneStateChanges
one_state_changes but k t now s sound live keeps ready slice held wait =
    one_wait_changes but k t now s k.waits k.wheel sound live keeps ready slice held wait (same_waits but k t sound)

-- a thread with other registers
hart_alike : (k : Kernel) (t u : ℕ) (h : HartState) → t < length k.threads
    → AreAlike (thread k u) (thread (with_thread k t (record (thread k t) { hart = h })) u)
hart_alike k t u h size =
    let now : Thread = record (thread k t) { hart = h } in
    let after = with_thread k t now in
    let itself : AreAlike (thread k t) now = record {
      «module» = refl;
      state = refl;
      priority = refl;
      threshold = refl;
      slice = refl;
      left = refl;
      held = refl;
    } in
    ⊎_elim
    (λ (same : u ≡ t). subst (λ n. AreAlike (thread k n) (thread after n)) (sym same)
    (subst (AreAlike (thread k t)) (sym (get_or-set_same k.threads t now blank_thread size)) itself))
    (λ (other : u ≢ t). alike_if_same (thread k u) (thread after u) (get_or-set_other k.threads t u now blank_thread other)) (cases_eq u t)

pub hart_changes : (but : List ℕ) (k : Kernel) (t : ℕ) (h : HartState) → IsSoundBut but k → t < 256
    → IsSoundBut but (with_thread k t (record (thread k t) { hart = h }))
hart_changes but k t h sound below =
    let now : Thread = record (thread k t) { hart = h } in
    let after = with_thread k t now in
    let size : t < length k.threads = omega (arith, sound.formed.threads) in
    sound_from but k after sound (record {
      scheduler = sound.formed.scheduler;
      levels = refl;
      slots = refl;
      threads = length-set k.threads t now;
      spots = refl;
      waits = sound.formed.waits;
      wheel = sound.formed.wheel;
      clean = sound.formed.clean;
      contents = sound.formed.contents;
      asked = sound.formed.asked;
      timeouts = sound.formed.timeouts;
      entries = λ u u_below. inl (record {
        live = refl;
        alike = hart_alike k t u h size;
        owner = λ _. refl;
        ready = refl;
        priority = refl;
        threshold = refl;
        wait = refl;
      });
      places = λ m m_below. spot_stays k after m refl (λ c c_below is_one of_m. (is_one, modules_stay k t c now size refl ∙ of_m))
          (sound.formed.places m m_below);
    })

pub one_hart_changes : OneHartChanges
one_hart_changes k t h sound below = hart_changes [] k t h sound below

-- timeouts and the clock move on, and the list of what is due changes
pub time_changes : (but : List ℕ) (k : Kernel) (wheel : TimerTable) (clock : ℕ) (due : List Armed) → IsSoundBut but k → IsWheel wheel
    → ((i : ℕ) → armed wheel i ≡ armed k.wheel i) → IsSoundBut but (record k { wheel = wheel; clock = clock; due = due })
time_changes but k wheel clock due sound right same =
    let after : Kernel = record k { wheel = wheel; clock = clock; due = due } in
    sound_from but k after sound (record {
      scheduler = sound.formed.scheduler;
      levels = refl;
      slots = refl;
      threads = refl;
      spots = refl;
      waits = sound.formed.waits;
      wheel = right;
      clean = sound.formed.clean;
      contents = sound.formed.contents;
      asked = sound.formed.asked;
      timeouts = λ i. subst (IsTimeoutOf (wait_of k.waits i)) (sym (same i)) (sound.formed.timeouts i);
      entries = λ u u_below. inl (record {
        live = refl;
        alike = alike_if_same (thread k u) (thread k u) refl;
        owner = λ _. refl;
        ready = refl;
        priority = refl;
        threshold = refl;
        wait = refl;
      });
      places = λ m m_below. spot_stays k after m refl (λ c c_below is_one of_m. (is_one, of_m)) (sound.formed.places m m_below);
    })

pub one_spot_changes : OneSpotChanges
one_spot_changes k m now sound right =
    let after = with_spot k m now in
    sound_from [] k after sound (record {
      scheduler = sound.formed.scheduler;
      levels = refl;
      slots = refl;
      threads = refl;
      spots = length-set k.spots m now;
      waits = sound.formed.waits;
      wheel = sound.formed.wheel;
      clean = sound.formed.clean;
      contents = sound.formed.contents;
      asked = sound.formed.asked;
      timeouts = sound.formed.timeouts;
      entries = λ u u_below. inl (record {
        live = refl;
        alike = alike_if_same (thread k u) (thread k u) refl;
        owner = λ _. refl;
        ready = refl;
        priority = refl;
        threshold = refl;
        wait = refl;
      });
      places = λ n n_below. ⊎_elim
          (λ (same : n ≡ m).
          let here : spot after m ≡ now = get_or-set_same k.spots m now blank_spot (omega (arith, sound.formed.spots, same, n_below)) in
          let itself : IsSpot after m now = record { shell = right.shell; callback = right.callback } in
          subst (λ i. IsSpot after i (spot after i)) (sym same) (subst (IsSpot after m) (sym here) itself))
          (λ (other : n ≢ m). spot_stays k after n (get_or-set_other k.spots m n now blank_spot other) (λ c c_below is_one of_n. (is_one, of_n))
          (sound.formed.places n n_below))
          (cases_eq n m);
    })

-- slots and what is in the objects change, and the threads among them stay
pub objects_change : (k : Kernel) (objects : List Slot) (queues : List (Option Queue)) (semas : List ℕ) → IsSound k → length objects ≡ length k.objects
    → ((o : ℕ) → o < 256 → IsClean (slot objects o) (slot objects o).state) → ((o : ℕ) → has_thread (slot objects o) ≡ is_thread k o)
    → ((o : ℕ) → is_thread k o ≡ true → (slot objects o).owner ≡ (slot k.objects o).owner) → AreContents objects queues semas
    → AreAsked objects queues semas k.waits → IsSound (record k { objects = objects; queues = queues; semas = semas })
objects_change k objects queues semas sound size clean threads owners contents asked =
    let after : Kernel = record k { objects = objects; queues = queues; semas = semas } in
    sound_from [] k after sound (record {
      scheduler = sound.formed.scheduler;
      levels = refl;
      slots = size;
      threads = refl;
      spots = refl;
      waits = sound.formed.waits;
      wheel = sound.formed.wheel;
      timeouts = sound.formed.timeouts;
      clean = clean;
      contents = contents;
      asked = asked;
      entries = λ u u_below. inl (record {
        live = threads u;
        alike = alike_if_same (thread k u) (thread k u) refl;
        owner = owners u;
        ready = refl;
        priority = refl;
        threshold = refl;
        wait = refl;
      });
      places = λ m m_below. spot_stays k after m refl (λ c c_below is_one of_m. (threads c ∙ is_one, of_m)) (sound.formed.places m m_below);
    })

pub one_slot_changes : OneSlotChanges
one_slot_changes k o now sound below clean same_kind same_owner =
    let after = with_slot k.objects o now in
    let size : o < length k.objects = omega (arith, sound.formed.slots) in
    let kinds = slot_keeps_kinds k.objects o now size (same_kind QueueKind) (same_kind SemaphoreKind) in
    objects_change k after k.queues k.semas sound (length-set k.objects o now)
    (λ u u_below. slot_set (λ _ x. IsClean x x.state) k.objects o now size clean u (λ _. sound.formed.clean u u_below))
    (kind_stays k.objects o now ThreadKind size (same_kind ThreadKind))
    (λ u live. slot_set (λ n x. is_thread k n ≡ true → x.owner ≡ (slot k.objects n).owner) k.objects o now size same_owner u (λ _ _. refl) live)
    (contents_by_kinds k.objects after k.queues k.semas kinds sound.formed.contents)
    (asked_by_kinds k.objects after k.queues k.semas k.waits kinds sound.formed.asked)
