-- New numbers of a thread, and a yield, keep a kernel sound.
use Rattle.std.proofs.Common.{◌≡◌, ◌≢◌, ℕ, ◌<◌, true, [], refl, sym, ap, ◌∙◌, subst, ⊎_elim, inl, inr, arith}
use Rattle.std.proofs.lemmas.Bool.{cases_eq}
use Rattle.std.proofs.lemmas.List.{get_or-set_same, set-get_or}
use Rattle.ready_maps.specs.Moves.{yielded, threshold_set, priority_set}
use Rattle.kernel_state.specs.Kernel.{thread, with_thread, is_thread, effective_priority, effective_threshold}
use Rattle.kernel_state.specs.Laws.{EffectiveFits, EffectiveStays, OneStateChanges, OneThreadChanges, ThreadIsRight, with_both}
use Rattle.kernel_state.specs.Scheduling.{ChangesOnly, YieldChangesNone, ThresholdChangesOne, PriorityChangesOne}
use Rattle.kernel_state.specs.Sound.{IsSound, IsEntry, IsSlice, IsThread}
use Rattle.kernel_state.specs.Thread.{blank_thread}
use Rattle.kernel_state.specs.declared.kernel.Kernel.{Kernel}
use Rattle.kernel_state.specs.declared.thread.Thread.{Thread}
use Rattle.thread_calls.specs.Laws.{ThresholdKeepsSound, PriorityKeepsSound, SliceKeepsSound, YieldKeepsSound}

-- the laws of the layer below
pub record Lower : Type 0 where
  pub changes : OneThreadChanges
  pub keeps : OneStateChanges
  pub right : ThreadIsRight
  pub stays : EffectiveStays
  pub fits : EffectiveFits

thread_of : Lower → (k : Kernel) (t : ℕ) → IsSound k → is_thread k t ≡ true → IsThread k t
thread_of lower k t sound live = subst (IsEntry k t) live (lower.right k t sound live).1.entry

-- the thread that was changed
thread_after : Lower → (k : Kernel) (t : ℕ) (now : Thread) → IsSound k → is_thread k t ≡ true → thread (with_thread k t now) t ≡ now
thread_after lower k t now sound live =
    let below = (lower.right k t sound live).0 in get_or-set_same k.threads t now blank_thread (omega (arith, sound.formed.threads))

-- a slice is whole at first
whole_slice : (n : ℕ) → IsSlice n n
whole_slice n = ⊎_elim (λ (none : n ≡ 0). inl (none, none)) (λ (some : n ≢ 0). inr (omega arith, omega arith)) (cases_eq n 0)

pub threshold_keeps_sound : Lower → ThresholdChangesOne → ThresholdKeepsSound
threshold_keeps_sound lower sets k t new sound live at_most =
    let was = thread_of lower k t sound live in
    let now : Thread = record (thread k t) { threshold = new } in
    let before = with_thread k t now in
    let here : thread before t ≡ now = thread_after lower k t now sound live in
    let settled = sound.settled t live refl in
    let effective = lower.stays k before t (ap (λ (x : Thread). x.priority) here) in
    let fits = lower.fits before t (subst (λ (x : Thread). x.priority < k.ready.levels) (sym here) was.priority) in
    let set =
    sets k.ready t (effective_threshold before t) sound.formed.scheduler (lower.right k t sound live).0
    (omega (arith, fits.0, effective.0, settled.priority)) in
    let after = with_both k t now (threshold_set k.ready t (effective_threshold before t)) in
    let same = lower.stays before after t refl in
    lower.changes [] k t now (threshold_set k.ready t (effective_threshold before t)) sound live refl set.others (record {
      ready = set.ready ∙ was.ready;
      priority = omega (arith, was.priority, set.others.levels);
      threshold = at_most;
      slice = was.slice;
      held = was.held;
      wait = was.wait;
    }) (λ _. record { priority = set.priority ∙ (settled.priority ∙ (sym effective.0 ∙ sym same.0)); threshold = set.threshold ∙ sym (same.1 refl) })

pub priority_keeps_sound : Lower → PriorityChangesOne → PriorityKeepsSound
priority_keeps_sound lower sets k t new sound live level =
    let was = thread_of lower k t sound live in
    let now : Thread = record (thread k t) { priority = new; threshold = new } in
    let before = with_thread k t now in
    let here : thread before t ≡ now = thread_after lower k t now sound live in
    let fits = lower.fits before t (subst (λ (x : Thread). x.priority < k.ready.levels) (sym here) level) in
    let s = priority_set k.ready t (effective_priority before t) (effective_threshold before t) in
    let set = sets k.ready t (effective_priority before t) (effective_threshold before t) sound.formed.scheduler (lower.right k t sound live).0 fits.0 fits.1 in
    let same = lower.stays before (with_both k t now s) t refl in
    lower.changes [] k t now s sound live refl set.others (record {
      ready = set.ready ∙ was.ready;
      priority = omega (arith, level, set.others.levels);
      threshold = omega arith;
      slice = was.slice;
      held = was.held;
      wait = was.wait;
    }) (λ _. record { priority = set.priority ∙ sym same.0; threshold = set.threshold ∙ sym (same.1 refl) })

pub slice_keeps_sound : Lower → SliceKeepsSound
slice_keeps_sound lower k t new sound live =
    let was = thread_of lower k t sound live in
    let alone : ChangesOnly k.ready k.ready t = record {
      kept = sound.formed.scheduler;
      levels = refl;
      ready = λ u other. refl;
      priority = λ u other. refl;
      threshold = λ u other. refl;
    } in
    lower.keeps [] k t (record (thread k t) { slice = new; left = new }) k.ready sound live (record {
      «module» = refl;
      priority = refl;
      threshold = refl;
      others = alone;
      in_scheduler = refl;
      threshold_in_scheduler = refl;
    }) was.ready (whole_slice new) was.held was.wait

pub yield_keeps_sound : Lower → YieldChangesNone → YieldKeepsSound
yield_keeps_sound lower yields k t sound live some =
    let was = thread_of lower k t sound live in
    let yield = yields k.ready t sound.formed.scheduler some in
    let s = yielded k.ready in
    let itself = lower.keeps [] k t (thread k t) s sound live (record {
      «module» = refl;
      priority = refl;
      threshold = refl;
      others = yield.others;
      in_scheduler = yield.priority;
      threshold_in_scheduler = yield.threshold;
    }) (yield.ready ∙ was.ready) was.slice was.held was.wait in
    subst (λ ts. IsSound (record k { threads = ts; ready = s })) (set-get_or k.threads t blank_thread) itself
