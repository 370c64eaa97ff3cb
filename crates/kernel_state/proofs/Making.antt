-- A sound kernel stays sound where a thread is made, and where one that is over is removed.
use Rattle.std.proofs.Common.{◌≡◌, ◌≢◌, ℕ, ◌<◌, ◌≤◌, ◌%◌, ◌==◌, true, false, cond, min, [], length, Option, None, Some, IfSome, refl, sym, ap, ◌∙◌, subst, ⊎_elim, inl, inr, arith}
use Rattle.std.proofs.lemmas.Bool.{cases_eq, cases_lt, eqb-false, false≢true, true≢false}
use Rattle.std.proofs.lemmas.List.{get_or-set_same, get_or-set_other, get_or_past, length-set}
use Rattle.tx_types.specs.declared.state.State.{State}
use Rattle.tx_types.specs.declared.state.State.TheVariants.{Ready, Completed, Terminated, Suspended, Sleep, QueueSusp, SemaphoreSusp, EventFlag, BlockMemory, ByteMemory, MutexSusp}
use Rattle.tx_types.specs.declared.kind.Kind.TheVariants.{Thread as ThreadKind, Queue as QueueKind, Semaphore as SemaphoreKind}
use Rattle.object_grants.specs.Table.{slot, after_make_live}
use Rattle.object_grants.specs.Slot.{free_slot, is_in}
use Rattle.object_grants.specs.declared.slot.Slot.{Slot}
use Rattle.object_grants.specs.declared.slot.SlotState.TheVariants.{Empty, Live}
use Rattle.ready_maps.specs.Sched.{is_ready, pr, th}
use Rattle.suspend_lists.specs.Waits.{wait_of}
use Rattle.kernel_state.specs.Kernel.{thread, has_thread, is_thread, module_of, spot, made_thread, removed_thread, unless_is, effective_priority, effective_threshold}
use Rattle.kernel_state.specs.Laws.{IsRight, OneThreadIsMade, OneThreadIsRemoved}
use Rattle.kernel_state.specs.Scheduling.{PriorityChangesOne}
use Rattle.kernel_state.specs.Sound.{IsSound, IsSettled, IsThread, IsEntry, IsSpot, IsSlice, IsClean, IsWaitOf}
use Rattle.kernel_state.specs.Spot.{blank_spot}
use Rattle.kernel_state.specs.Thread.{blank_thread, new_thread, is_over, is_state}
use Rattle.kernel_state.specs.declared.kernel.Kernel.{Kernel}
use Rattle.kernel_state.specs.declared.spot.Spot.{Spot}
use Rattle.kernel_state.specs.declared.thread.Thread.{Thread}
use Rattle.kernel_state.specs.declared.thread.ThreadSpec.{ThreadSpec}
use Rattle.kernel_state.proofs.Contents.{of_some, contents_by_kinds, asked_by_kinds, slot_keeps_kinds, no_object_if_empty, is_no_other_kind, is_no_other_object}
use Rattle.kernel_state.proofs.Sound.{alike_if_same, sound_from, spot_stays}
use Rattle.kernel_state.proofs.States.{none_if_over}

-- what is Empty has a number below 256
below_if_empty : (k : Kernel) (o : ℕ) → IsSound k → is_in Empty (slot k.objects o) ≡ true → o < 256
below_if_empty k o sound empty = ⊎_elim (λ below. below)
    (λ past. absurd (false≢true (sym (ap (is_in Empty) (get_or_past k.objects o (free_slot 0) (omega (arith, sound.formed.slots)))) ∙ empty))) (cases_lt o 256)

-- a slice is whole at first
pub whole_slice : (n : ℕ) → IsSlice n n
whole_slice n = ⊎_elim (λ (none : n ≡ 0). inl (none, none)) (λ (some : n ≢ 0). inr (omega arith, omega arith)) (cases_eq n 0)

-- a thread with a new entry and no mutex has the pair of that entry
made_is_settled : (k : Kernel) (o : ℕ) (s : ThreadSpec) → thread k o ≡ new_thread s → pr k.ready o ≡ s.priority → th k.ready o ≡ s.threshold
    → s.threshold ≤ s.priority → IsSettled k o
unfolding effective_priority effective_threshold
made_is_settled k o s here priority threshold at_most = record {
  priority = priority ∙ sym (ap (λ (t : Thread). t.priority) here);
  threshold = threshold ∙ (omega arith ∙ sym (ap (λ (t : Thread). min t.threshold t.priority) here));
}

pub one_thread_is_made : PriorityChangesOne → OneThreadIsMade
one_thread_is_made sets k o name s sound empty kind owner no_zero at_most level =
    let below = below_if_empty k o sound empty in
    let before : Kernel = record k { objects = after_make_live k.objects o name } in
    let after = made_thread before o s in
    let made : Slot = record (slot k.objects o) { state = Live; name = name } in
    let none : is_thread k o ≡ false = no_object_if_empty ThreadKind (slot k.objects o) empty in
    let slot_here : slot after.objects o ≡ made = get_or-set_same k.objects o made (free_slot 0) (omega (arith, sound.formed.slots)) in
    let slot_there = λ (u : ℕ) (other : u ≢ o). get_or-set_other k.objects o u made (free_slot 0) other in
    let here : thread after o ≡ new_thread s = get_or-set_same k.threads o (new_thread s) blank_thread (omega (arith, sound.formed.threads)) in
    let there = λ (u : ℕ) (other : u ≢ o). get_or-set_other k.threads o u (new_thread s) blank_thread other in
    let entry : IsEntry k o false = subst (IsEntry k o) none (sound.formed.entries o below) in
    let absent = entry.0 in
    let set = sets k.ready o s.priority s.threshold sound.formed.scheduler below at_most level in
    let live : is_thread after o ≡ true = ap has_thread slot_here ∙ kind in
    let is_made : IsThread after o = record {
      owner = ap (λ (t : Thread). t.module) here ∙ (owner ∙ sym (ap (λ (x : Slot). x.owner) slot_here));
      ready = set.ready ∙ (absent ∙ sym (ap (λ (t : Thread). is_state t.state Ready) here));
      priority = subst (λ (t : Thread). t.priority < after.ready.levels) (sym here) (subst (λ (n : ℕ). s.priority < n) (sym set.others.levels) level);
      threshold = subst (λ (t : Thread). t.threshold ≤ t.priority) (sym here) at_most;
      slice = subst (λ (t : Thread). IsSlice t.slice t.left) (sym here) (whole_slice s.slice);
      held = λ is_held. absurd (false≢true (sym (ap (λ (t : Thread). t.held) here) ∙ is_held));
      wait = subst (λ (t : Thread). IsWaitOf t.state (wait_of k.waits o)) (sym here) (subst (IsWaitOf Suspended) (sym entry.1) refl);
    } in
    let itself : IsRight [] after o = record {
      entry = subst (IsEntry after o) (sym live) is_made;
      settled = λ _ _. made_is_settled after o s here set.priority set.threshold at_most;
    } in
    let size : o < length k.objects = omega (arith, sound.formed.slots) in
    let kinds = slot_keeps_kinds k.objects o made size
    (is_no_other_kind ThreadKind QueueKind made kind refl ∙ sym (no_object_if_empty QueueKind (slot k.objects o) empty))
    (is_no_other_kind ThreadKind SemaphoreKind made kind refl ∙ sym (no_object_if_empty SemaphoreKind (slot k.objects o) empty)) in
    sound_from [] k after sound (record {
      scheduler = set.others.kept;
      levels = set.others.levels;
      slots = length-set k.objects o made;
      threads = length-set k.threads o (new_thread s);
      spots = refl;
      waits = sound.formed.waits;
      wheel = sound.formed.wheel;
      timeouts = sound.formed.timeouts;
      clean = λ u u_below. ⊎_elim
          (λ (same : u ≡ o). subst (λ n. IsClean (slot after.objects n) (slot after.objects n).state) (sym same)
          (subst (λ (x : Slot). IsClean x x.state) (sym slot_here) no_zero))
          (λ (other : u ≢ o). subst (λ (x : Slot). IsClean x x.state) (sym (slot_there u other)) (sound.formed.clean u u_below))
          (cases_eq u o);
      contents = contents_by_kinds k.objects after.objects k.queues k.semas kinds sound.formed.contents;
      asked = asked_by_kinds k.objects after.objects k.queues k.semas k.waits kinds sound.formed.asked;
      entries = λ u u_below. ⊎_elim
          (λ (same : u ≡ o). inr (subst (IsRight [] after) (sym same) itself))
          (λ (other : u ≢ o). inl (record {
            live = ap has_thread (slot_there u other);
            alike = alike_if_same (thread k u) (thread after u) (there u other);
            owner = λ _. ap (λ (x : Slot). x.owner) (slot_there u other);
            ready = set.others.ready u other;
            priority = set.others.priority u other;
            threshold = set.others.threshold u other;
            wait = refl;
          }))
          (cases_eq u o);
      places = λ m m_below. spot_stays k after m refl (λ c c_below is_one of_m.
          let other : c ≢ o = λ same. true≢false (sym is_one ∙ (ap (is_thread k) same ∙ none)) in
          (ap has_thread (slot_there c other) ∙ is_one, ap (λ (t : Thread). t.module) (there c other) ∙ of_m)) (sound.formed.places m m_below);
    })

-- a thread that is over isn't ready
over_not_ready : (state : State) → is_over state ≡ true → is_state state Ready ≡ false
over_not_ready Ready over = absurd (false≢true over)
over_not_ready Completed over = refl
over_not_ready Terminated over = refl
over_not_ready Suspended over = refl
over_not_ready Sleep over = refl
over_not_ready QueueSusp over = refl
over_not_ready SemaphoreSusp over = refl
over_not_ready EventFlag over = refl
over_not_ready BlockMemory over = refl
over_not_ready ByteMemory over = refl
over_not_ready MutexSusp over = refl

-- what is left of an option without a number isn't that number
unless_is-from : (t : ℕ) (o : Option ℕ) (P : ℕ → Type 0) → IfSome o P → IfSome (unless_is t o) (λ u. (u ≢ t) × P u)
unless_is-from t None P h = tt
unless_is-from t (Some u) P h =
    elim (u == t) as (λ b. (u == t) ≡ b → IfSome (cond b None (Some u)) (λ v. (v ≢ t) × P v)) [ true ↦ λ e. tt | false ↦ λ e. (eqb-false u t e, h) ] refl

pub one_thread_is_removed : OneThreadIsRemoved
one_thread_is_removed k t sound below live over =
    let after = removed_thread k t in
    let own = module_of k t in
    let emptied : Slot = record (slot k.objects t) { state = Empty; grants = 0; name = [] } in
    let left : Spot = record (spot k own) { callback = unless_is t (spot k own).callback } in
    let slot_here : slot after.objects t ≡ emptied = get_or-set_same k.objects t emptied (free_slot 0) (omega (arith, sound.formed.slots)) in
    let slot_there = λ (u : ℕ) (other : u ≢ t). get_or-set_other k.objects t u emptied (free_slot 0) other in
    let sound_thread : IsThread k t = subst (IsEntry k t) live (sound.formed.entries t below) in
    let not_ready : is_ready k.ready t ≡ false = sound_thread.ready ∙ over_not_ready (thread k t).state over in
    let gone : is_thread after t ≡ false = ap has_thread slot_here in
    let itself : IsRight [] after t = record {
      entry = subst (IsEntry after t) (sym gone) (not_ready, none_if_over (thread k t).state (wait_of k.waits t) over sound_thread.wait);
      settled = λ is_one _. absurd (false≢true (sym gone ∙ is_one));
    } in
    let callback_stays = λ (c : ℕ) (other : c ≢ t) (is_one : is_thread k c ≡ true). ap has_thread (slot_there c other) ∙ is_one in
    let kinds = slot_keeps_kinds k.objects t emptied (omega (arith, sound.formed.slots))
    (sym (is_no_other_object ThreadKind QueueKind (slot k.objects t) live refl))
    (sym (is_no_other_object ThreadKind SemaphoreKind (slot k.objects t) live refl)) in
    sound_from [] k after sound (record {
      scheduler = sound.formed.scheduler;
      levels = refl;
      slots = length-set k.objects t emptied;
      threads = refl;
      spots = length-set k.spots own left;
      waits = sound.formed.waits;
      wheel = sound.formed.wheel;
      timeouts = sound.formed.timeouts;
      clean = λ u u_below. ⊎_elim
          (λ (same : u ≡ t). subst (λ n. IsClean (slot after.objects n) (slot after.objects n).state) (sym same)
          (subst (λ (x : Slot). IsClean x x.state) (sym slot_here) (refl, refl)))
          (λ (other : u ≢ t). subst (λ (x : Slot). IsClean x x.state) (sym (slot_there u other)) (sound.formed.clean u u_below))
          (cases_eq u t);
      contents = contents_by_kinds k.objects after.objects k.queues k.semas kinds sound.formed.contents;
      asked = asked_by_kinds k.objects after.objects k.queues k.semas k.waits kinds sound.formed.asked;
      entries = λ u u_below. ⊎_elim
          (λ (same : u ≡ t). inr (subst (IsRight [] after) (sym same) itself))
          (λ (other : u ≢ t). inl (record {
            live = ap has_thread (slot_there u other);
            alike = alike_if_same (thread k u) (thread k u) refl;
            owner = λ _. ap (λ (x : Slot). x.owner) (slot_there u other);
            ready = refl;
            priority = refl;
            threshold = refl;
            wait = refl;
          }))
          (cases_eq u t);
      places = λ m m_below. ⊎_elim
          (λ (same : m ≡ own).
          let spot_here : spot after m ≡ left = subst (λ n. spot after n ≡ left) (sym same)
          (get_or-set_same k.spots own left blank_spot (omega (arith, sound.formed.spots, same, m_below))) in
          let was : IsSpot k own (spot k own) = subst (λ n. IsSpot k n (spot k n)) same (sound.formed.places m m_below) in
          record {
            shell = ap (λ (s : Spot). s.shell % 4) spot_here ∙ was.shell;
            callback = subst (λ (s : Spot). IfSome s.callback (λ c. (c < 256) × (is_thread after c ≡ true) × (module_of after c ≡ m))) (sym spot_here)
                (of_some left.callback _ _ (λ c h. (h.1.0, callback_stays c h.0 h.1.1, h.1.2 ∙ sym same))
                (unless_is-from t (spot k own).callback _ was.callback));
          })
          (λ (other : m ≢ own). spot_stays k after m (get_or-set_other k.spots own m left blank_spot other) (λ c c_below is_one of_m.
          let not_t : c ≢ t = λ same. other (sym of_m ∙ ap (module_of k) same) in
          (callback_stays c not_t is_one, of_m)) (sound.formed.places m m_below))
          (cases_eq m own);
    })
