-- What holds of the scheduler's state is kept by every move.
use Rattle.std.proofs.Common.{◌≡◌, ◌≢◌, ℕ, ◌<◌, ◌≤◌, ◌==◌, true, false, not, nat_le, nat_lt, List, [], ◌∷◌, length, find, All, AllPairs, Option, None, Some}
use Rattle.std.proofs.Common.{slice_index, slice_index_or, drop, fold, replicate, if◌then◌else◌, ⊎_elim, arith, ap, subst, sym, ◌∙◌, refl, length-set}
use Rattle.std.proofs.Common.{get_or-set_same, get_or-set_other}
use Rattle.std.proofs.lemmas.List.{get_or-replicate, get_or_past}
use Rattle.std.proofs.lemmas.Bool.{cond_both, cond-true, cond-false, eq-eqb, eqb-true, eqb-false, leb-true, leb-false, ltb-true, ltb-false, ne_eqb, cases_eq}
use Rattle.std.proofs.lemmas.Bool.{cases_lt, not_from_false, or_from}
use Rattle.std.proofs.lemmas.List.Elements.{All-drop, All-filter, All-head, All-nil, All-same, All-tail}
use Rattle.std.proofs.lemmas.List.Kept.{AllPairs-filter}
use Rattle.std.specs.List.{list_any, slice_get}
use Rattle.std.specs.Option.{option_map_or, IfSome}
use Rattle.ready_maps.specs.Sched.{Sched, pr, th, has, without, last_in, first_in, first_at, is_ready, runs, best, pick, picked, picked_before}
use Rattle.ready_maps.specs.Moves.{taken_out, placed_last, placed_first, holding, challenged, readied, unreadied, yielded, yielded_by, giving_way, released}
use Rattle.ready_maps.specs.Moves.{with_threshold, threshold_set, with_numbers, placed_again, priority_set, placed_all, restored}
use Rattle.ready_maps.specs.Kept.{IsLaidOut, MayRun, RunsRightly, IsKept}
use Rattle.ready_maps.specs.Laws.{Move, moved, MayMove, MovesKeepTheFacts}
use Rattle.ready_maps.specs.Laws.Move.{Ready, Unready, Yield, SetThreshold, SetPriority}
use Rattle.ready_maps.proofs.ListFacts.{room, pigeonhole, length-all_last, first_has, first_then, first_before, AllPairs-rest, no_first, any_not, find-filter}
use Rattle.ready_maps.proofs.ListFacts.{find_has, find_agree, has_not, without_is_not, All-last_in, sorted-last_in, sorted-first_in, climbing-first_in}
use Rattle.ready_maps.proofs.ListFacts.{distinct-last_in, distinct-first_in, find-last_in, find-first_in, first_in_is_first, last_in_is_first, All-first_in}

-- which thread runs is nothing to the lists
same_lists_laid : (s : Sched) (run : Option ℕ) → IsLaidOut s → IsLaidOut (record s { run = run })
same_lists_laid s run laid = record {
  threads = laid.threads;
  levels = laid.levels;
  in_levels = laid.in_levels;
  thresholds = laid.thresholds;
  in_range = laid.in_range;
  each_once = laid.each_once;
  by_priority = laid.by_priority;
  holders_climb = laid.holders_climb;
  holders_are_first = laid.holders_are_first;
}

-- other holders
held_laid : (s : Sched) (held : List ℕ) → IsLaidOut s → AllPairs (λ k l. pr s k < pr s l) held → All (λ k. first_at s (pr s k) ≡ Some k) held
    → IsLaidOut (record s { held = held })
held_laid s held laid climb first = record {
  threads = laid.threads;
  levels = laid.levels;
  in_levels = laid.in_levels;
  thresholds = laid.thresholds;
  in_range = laid.in_range;
  each_once = laid.each_once;
  by_priority = laid.by_priority;
  holders_climb = climb;
  holders_are_first = first;
}

-- a holder is a ready thread
held_has : (P : ℕ → Type 0) (s : Sched) → IsLaidOut s → All P s.order → All P s.held
held_has P s laid all =
    λ k d within. find_has P (λ u. pr s u == pr s (slice_index_or s.held k d)) s.order (slice_index_or s.held k d) all (laid.holders_are_first k d within)

-- every ready thread has a priority at or above that of the best one
best_is_lowest : (s : Sched) (h : ℕ) → IsLaidOut s → best s ≡ Some h → All (λ u. pr s h ≤ pr s u) s.order
best_is_lowest s h laid found =
    first_then (λ u. pr s h ≤ pr s u) s.order h found (omega arith) (first_before (λ t u. pr s t ≤ pr s u) s.order h found laid.by_priority)

best_is_first : (s : Sched) (h : ℕ) → best s ≡ Some h → first_at s (pr s h) ≡ Some h
best_is_first s h found = first s.order found
  where
    first : (ts : List ℕ) → slice_get ts 0 ≡ Some h → find (λ u. pr s u == pr s h) ts ≡ Some h
    first [] same = absurd (cc)
    first (t ∷ ts) same = let t_is_h : t ≡ h = cc in rw (t_is_h, eq-eqb (pr s h) (pr s h) refl) refl

-- the best thread may run where its priority is below each holder's
best_may_run : (s : Sched) (h : ℕ) → IsLaidOut s → best s ≡ Some h → All (λ k. pr s h < pr s k) s.held → MayRun s h
best_may_run s h laid found below = record {
  is_first = best_is_first s h found;
  below_holders = below;
  others = λ k d within _. let lowest = best_is_lowest s h laid found k d within in let own = laid.thresholds h in omega arith;
}

best_runs : (s : Sched) (h : ℕ) → IsLaidOut s → best s ≡ Some h → All (λ k. pr s h < pr s k) s.held → IsKept (record s { run = Some h })
best_runs s h laid found below =
    let may = best_may_run s h laid found below in
    record {
      laid_out = same_lists_laid s (Some h) laid;
      rightly = record { is_first = may.is_first; below_holders = may.below_holders; others = may.others };
    }

-- the first holder runs again
holder_runs : (s : Sched) (h k : ℕ) → IsLaidOut s → best s ≡ Some h → slice_get s.held 0 ≡ Some k → th s k ≤ pr s h
    → IsKept (record s { run = Some k; held = drop 1 s.held })
holder_runs s h k laid found first low =
    let holds = λ (u : ℕ). first_at s (pr s u) ≡ Some u in
    let climb = λ (u v : ℕ). pr s u < pr s v in
    let rest = held_laid s (drop 1 s.held) laid (AllPairs-rest climb s.held laid.holders_climb) (All-drop holds 1 s.held laid.holders_are_first) in
    record {
      laid_out = same_lists_laid (record s { held = drop 1 s.held }) (Some k) rest;
      rightly = record {
        is_first = first_has holds s.held k first laid.holders_are_first;
        below_holders = first_before climb s.held k first laid.holders_climb;
        others = λ j d within _. let lowest = best_is_lowest s h laid found j d within in omega arith;
      };
    }

pub pick_keeps : (s : Sched) → IsLaidOut s → IsKept (pick s)
pick_keeps s laid = elim (best s) as (λ o. best s ≡ o → IsKept (picked s o)) [
  | None ↦ λ none. record { laid_out = same_lists_laid s None laid; rightly = no_first s.order none }
  | Some h ↦ λ found. elim (slice_get s.held 0) as (λ o. slice_get s.held 0 ≡ o → IsKept (picked_before s h o)) [
    | None ↦ λ none. best_runs s h laid found (All-same (λ k. pr s h < pr s k) s.held [] (no_first s.held none) (All-nil (λ k. pr s h < pr s k)))
    | Some k ↦ λ first. cond_both (nat_le (th s k) (pr s h)) (record s { run = Some k; held = drop 1 s.held }) (record s { run = Some h }) IsKept
        (λ low. holder_runs s h k laid found first (leb-true (th s k) (pr s h) low))
        (λ high. let over = leb-false (th s k) (pr s h) high in let own = laid.thresholds k in best_runs s h laid found
        (first_then (λ l. pr s h < pr s l) s.held k first (omega arith)
        (λ j d within. let climbs = first_before (λ u v. pr s u < pr s v) s.held k first laid.holders_climb j d within in omega arith)))
  ] refl
] refl

-- a thread out of the order, where it is no holder, and of the holders
unordered_laid : (s : Sched) (t : ℕ) → IsLaidOut s → All (λ k. k ≢ t) s.held → IsLaidOut (record s { order = without t s.order })
unordered_laid s t laid other = record {
  threads = laid.threads;
  levels = laid.levels;
  in_levels = laid.in_levels;
  thresholds = laid.thresholds;
  in_range = All-filter (λ u. not (u == t)) (λ u. u < 256) s.order laid.in_range;
  each_once = AllPairs-filter (λ u v. v ≢ u) (λ u. not (u == t)) s.order laid.each_once;
  by_priority = AllPairs-filter (λ u v. pr s u ≤ pr s v) (λ u. not (u == t)) s.order laid.by_priority;
  holders_climb = laid.holders_climb;
  holders_are_first = λ k d within. find-filter _ (λ u. not (u == t)) s.order _ (laid.holders_are_first k d within)
      (not_from_false _ (ne_eqb _ t (other k d within)));
}

fewer_held_laid : (s : Sched) (t : ℕ) → IsLaidOut s → IsLaidOut (record s { held = without t s.held })
fewer_held_laid s t laid =
    held_laid s (without t s.held) laid (AllPairs-filter (λ k l. pr s k < pr s l) (λ u. not (u == t)) s.held laid.holders_climb)
    (All-filter (λ u. not (u == t)) (λ k. first_at s (pr s k) ≡ Some k) s.held laid.holders_are_first)

pub taken_laid : (s : Sched) (t : ℕ) → IsLaidOut s → IsLaidOut (taken_out s t)
taken_laid s t laid = unordered_laid (record s { held = without t s.held }) t (fewer_held_laid s t laid) (without_is_not t s.held)

pub placed_last_laid : (s : Sched) (t : ℕ) → IsLaidOut s → t < 256 → All (λ u. u ≢ t) s.order → IsLaidOut (placed_last s t)
placed_last_laid s t laid low new = record {
  threads = laid.threads;
  levels = laid.levels;
  in_levels = laid.in_levels;
  thresholds = laid.thresholds;
  in_range = All-last_in (λ u. u < 256) (pr s) t s.order low laid.in_range;
  each_once = distinct-last_in (pr s) t s.order laid.each_once new;
  by_priority = sorted-last_in (pr s) t s.order laid.by_priority;
  holders_climb = laid.holders_climb;
  holders_are_first = λ k d within. find-last_in (pr s) t _ _ s.order (laid.holders_are_first k d within);
}

pub placed_first_laid : (s : Sched) (t : ℕ) → IsLaidOut s → t < 256 → All (λ u. u ≢ t) s.order → All (λ k. pr s k ≢ pr s t) s.held
    → IsLaidOut (placed_first s t)
placed_first_laid s t laid low new other = record {
  threads = laid.threads;
  levels = laid.levels;
  in_levels = laid.in_levels;
  thresholds = laid.thresholds;
  in_range = All-first_in (λ u. u < 256) (pr s) t s.order low laid.in_range;
  each_once = distinct-first_in (pr s) t s.order laid.each_once new;
  by_priority = sorted-first_in (pr s) t s.order laid.by_priority;
  holders_climb = laid.holders_climb;
  holders_are_first = λ k d within. find-first_in (pr s) t _ _ s.order (λ same. other k d within (sym same)) (laid.holders_are_first k d within);
}

pub holding_laid : (s : Sched) (t : ℕ) → IsLaidOut s → first_at s (pr s t) ≡ Some t → All (λ k. pr s k ≢ pr s t) s.held → IsLaidOut (holding s t)
holding_laid s t laid first other =
    cond_both (nat_lt (th s t) (pr s t)) (record s { held = first_in (pr s) t s.held }) s IsLaidOut
    (λ _. held_laid s (first_in (pr s) t s.held) laid (climbing-first_in (pr s) t s.held laid.holders_climb other)
    (All-first_in (λ k. first_at s (pr s k) ≡ Some k) (pr s) t s.held first laid.holders_are_first)) (λ _. laid)

-- b runs in the place of a thread r of a higher priority that joins the holders
gives_way : (s : Sched) (r b : ℕ) → IsLaidOut s → first_at s (pr s r) ≡ Some r → All (λ k. pr s r < pr s k) s.held → pr s b < pr s r → MayRun s b
    → IsKept (record (holding s r) { run = Some b })
gives_way s r b laid first below less may =
    let joined = holding_laid s r laid first (λ k d within same. let over = below k d within in omega arith) in
    cond_both (nat_lt (th s r) (pr s r)) (record s { held = first_in (pr s) r s.held }) s (λ now. IsLaidOut now → IsKept (record now { run = Some b }))
    (λ _ held. record {
      laid_out = same_lists_laid (record s { held = first_in (pr s) r s.held }) (Some b) held;
      rightly = record {
        is_first = may.is_first;
        below_holders = All-first_in (λ k. pr s b < pr s k)
            (pr s) r s.held less may.below_holders;
        others = may.others;
      };
    }) (λ _ held. record {
      laid_out = same_lists_laid s (Some b) held;
      rightly = record { is_first = may.is_first; below_holders = may.below_holders; others = may.others };
    }) joined

-- what the facts say of a running thread
at_run : (s : Sched) (o : Option ℕ) → IsKept s → s.run ≡ o → RunsRightly s o
at_run s o kept same = subst (RunsRightly s) same kept.rightly

runner_lowest : (s : Sched) (r : ℕ) → IsLaidOut s → MayRun s r → All (λ u. th s r ≤ pr s u) s.order
runner_lowest s r laid may = λ k d within.
    let u = slice_index_or s.order k d in
    ⊎_elim (λ same. subst (λ v. th s r ≤ pr s v) (sym same) (laid.thresholds r)) (λ other. may.others k d within other) (cases_eq u r)

-- Ready
readied_none : (s : Sched) (t : ℕ) → IsLaidOut s → t < 256 → s.order ≡ [] → IsKept (record (placed_last s t) { run = Some t })
readied_none s t laid low same =
    let none = λ (P : ℕ → Type 0). All-same P s.order [] same (All-nil P) in
    record {
      laid_out = same_lists_laid (placed_last s t) (Some t) (placed_last_laid s t laid low (none (λ u. u ≢ t)));
      rightly = record {
        is_first = last_in_is_first (pr s) t s.order (none (λ u. pr s u ≢ pr s t));
        below_holders = held_has (λ u. pr s t < pr s u) s laid (none (λ u. pr s t < pr s u));
        others = All-last_in (λ u. u ≢ t → th s t ≤ pr s u) (pr s) t s.order (λ other. absurd (other refl)) (none (λ u. u ≢ t → th s t ≤ pr s u));
      };
    }

readied_behind : (s : Sched) (t r : ℕ) → MayRun s r → th s r ≤ pr s t → MayRun (placed_last s t) r
readied_behind s t r may high = record {
  is_first = find-last_in (pr s) t (pr s r) r s.order may.is_first;
  below_holders = may.below_holders;
  others = All-last_in (λ u. u ≢ r → th s r ≤ pr s u) (pr s) t s.order (λ _. high) may.others;
}

readied_before : (s : Sched) (t r : ℕ) → IsLaidOut s → MayRun s r → pr s t < th s r → MayRun (placed_last s t) t
readied_before s t r laid may less =
    let lowest = runner_lowest s r laid may in
    let own = laid.thresholds t in
    let runner = laid.thresholds r in
    record {
      is_first = last_in_is_first (pr s) t s.order (λ k d within same. let low = lowest k d within in omega arith);
      below_holders = λ k d within. let below = may.below_holders k d within in omega arith;
      others = All-last_in (λ u. u ≢ t → th s t ≤ pr s u) (pr s) t s.order (λ other. absurd (other refl))
          (λ k d within _. let low = lowest k d within in omega arith);
    }

pub readied_keeps : (s : Sched) (t : ℕ) → IsKept s → t < 256 → is_ready s t ≡ false → IsKept (readied s t)
readied_keeps s t kept low unready =
    let laid = kept.laid_out in
    let new = has_not t s.order unready in
    let placed = placed_last_laid s t laid low new in
    elim s.run as (λ o. s.run ≡ o → IsKept (challenged (placed_last s t) t o)) [
      | None ↦ λ none. readied_none s t laid low (at_run s None kept none)
      | Some r ↦ λ running. let may : MayRun s r = at_run s (Some r) kept running in let runner = laid.thresholds r in cond_both (nat_lt (pr s t) (th s r))
          (record (holding (placed_last s t) r) { run = Some t }) (placed_last s t) IsKept
          (λ below. let less = ltb-true (pr s t) (th s r) below in gives_way (placed_last s t) r t placed
          (find-last_in (pr s) t (pr s r) r s.order may.is_first) may.below_holders (omega arith) (readied_before s t r laid may less))
          (λ upto. record {
            laid_out = placed;
            rightly = subst (RunsRightly (placed_last s t)) (sym running)
                (readied_behind s t r may (ltb-false (pr s t) (th s r) upto));
          })
    ] refl

-- Unready
runs_is : (s : Sched) (t : ℕ) → runs s t ≡ true → s.run ≡ Some t
runs_is s t it_runs = elim s.run as (λ o. s.run ≡ o → option_map_or (λ r. r == t) o false ≡ true → o ≡ Some t) [
  | None ↦ λ _ no. cc
  | Some r ↦ λ _ same. ap Some (eqb-true r t same)
] refl it_runs

runs_not : (s : Sched) (t r : ℕ) → runs s t ≡ false → s.run ≡ Some r → r ≢ t
runs_not s t r other running = eqb-false r t (ap (λ o. option_map_or (λ u. u == t) o false) (sym running) ∙ other)

taken_may_run : (s : Sched) (t r : ℕ) → MayRun s r → r ≢ t → MayRun (taken_out s t) r
taken_may_run s t r may other = record {
  is_first = find-filter (λ u. pr s u == pr s r) (λ u. not (u == t)) s.order r may.is_first (not_from_false (r == t) (ne_eqb r t other));
  below_holders = All-filter (λ u. not (u == t)) (λ k. pr s r < pr s k) s.held may.below_holders;
  others = All-filter (λ u. not (u == t)) (λ u. u ≢ r → th s r ≤ pr s u) s.order may.others;
}

-- a thread that doesn't run is taken out
pub taken_keeps : (s : Sched) (t : ℕ) → IsKept s → runs s t ≡ false → IsKept (taken_out s t)
taken_keeps s t kept other = record {
  laid_out = taken_laid s t kept.laid_out;
  rightly = elim s.run as (λ o. s.run ≡ o → RunsRightly (taken_out s t) o) [
    | None ↦ λ none. ap (without t) (at_run s None kept none)
    | Some r ↦ λ running. taken_may_run s t r (at_run s (Some r) kept running) (runs_not s t r other running)
  ] refl;
}

pub unreadied_keeps : (s : Sched) (t : ℕ) → IsKept s → IsKept (unreadied s t)
unreadied_keeps s t kept =
    cond_both (runs s t) (pick (taken_out s t)) (taken_out s t) IsKept (λ _. pick_keeps (taken_out s t) (taken_laid s t kept.laid_out))
    (λ other. taken_keeps s t kept other)

-- Yield
pub runner_is_thread : (s : Sched) (r : ℕ) → IsKept s → s.run ≡ Some r → r < 256
runner_is_thread s r kept running =
    let may : MayRun s r = at_run s (Some r) kept running in find_has (λ u. u < 256) (λ u. pr s u == pr s r) s.order r kept.laid_out.in_range may.is_first

pub runner_unordered : (s : Sched) (r : ℕ) → IsKept s → s.run ≡ Some r → IsLaidOut (record s { order = without r s.order })
runner_unordered s r kept running =
    let may : MayRun s r = at_run s (Some r) kept running in
    unordered_laid s r kept.laid_out (λ k d within same. let below = may.below_holders k d within in let equal = ap (pr s) same in omega arith)

pub yielded_laid : (s : Sched) (r : ℕ) → IsKept s → s.run ≡ Some r → IsLaidOut (placed_last (record s { order = without r s.order }) r)
yielded_laid s r kept running =
    placed_last_laid (record s { order = without r s.order }) r (runner_unordered s r kept running) (runner_is_thread s r kept running)
    (without_is_not r s.order)

pub yielded_keeps : (s : Sched) → IsKept s → IsKept (yielded s)
yielded_keeps s kept = elim s.run as (λ o. s.run ≡ o → IsKept (yielded_by s o)) [
  | None ↦ λ _. kept
  | Some r ↦ λ running. pick_keeps (placed_last (record s { order = without r s.order }) r) (yielded_laid s r kept running)
] refl

-- SetTh
th_own : (s : Sched) (t threshold : ℕ) → IsLaidOut s → t < 256 → th (with_threshold s t threshold) t ≡ threshold
th_own s t threshold laid low = let long = laid.threads.1 in get_or-set_same s.threshold t threshold 0 (omega arith)

th_other : (s : Sched) (t threshold u : ℕ) → u ≢ t → th (with_threshold s t threshold) u ≡ th s u
th_other s t threshold u other = get_or-set_other s.threshold t u threshold 0 other

threshold_laid : (s : Sched) (t threshold : ℕ) → IsLaidOut s → t < 256 → threshold ≤ pr s t → IsLaidOut (with_threshold s t threshold)
threshold_laid s t threshold laid low upto = record {
  threads = (laid.threads.0, length-set s.threshold t threshold ∙ laid.threads.1);
  levels = laid.levels;
  in_levels = laid.in_levels;
  thresholds = λ u. ⊎_elim
      (λ same. let own = th_own s t threshold laid low in subst (λ v. th (with_threshold s t threshold) v ≤ pr s v) (sym same) (omega arith))
      (λ other. let stays = th_other s t threshold u other in let had = laid.thresholds u in omega arith) (cases_eq u t);
  in_range = laid.in_range;
  each_once = laid.each_once;
  by_priority = laid.by_priority;
  holders_climb = laid.holders_climb;
  holders_are_first = laid.holders_are_first;
}

-- the running thread gets another threshold
giving_way_keeps : (s : Sched) (t : ℕ) → IsLaidOut s → s.run ≡ Some t → first_at s (pr s t) ≡ Some t → All (λ k. pr s t < pr s k) s.held
    → IsKept (giving_way s t (best s))
giving_way_keeps s t laid running first below = elim (best s) as (λ o. best s ≡ o → IsKept (giving_way s t o)) [
  | None ↦ λ none. stays (All-same (λ u. u ≢ t → th s t ≤ pr s u) s.order [] (no_first s.order none) (All-nil (λ u. u ≢ t → th s t ≤ pr s u)))
  | Some b ↦ λ found. let lowest = best_is_lowest s b laid found in let own = laid.thresholds t in cond_both (nat_lt (pr s b) (th s t))
      (record (holding s t) { run = Some b }) s IsKept
      (λ under. let less = ltb-true (pr s b) (th s t) under in gives_way s t b laid first below (omega arith)
      (best_may_run s b laid found (λ k d within. let over = below k d within in omega arith)))
      (λ upto. let high = ltb-false (pr s b) (th s t) upto in stays (λ k d within _. let low = lowest k d within in omega arith))
] refl
  where
    stays : All (λ u. u ≢ t → th s t ≤ pr s u) s.order → IsKept s
    stays others = record
        { laid_out = laid; rightly = subst (RunsRightly s) (sym running) (record { is_first = first; below_holders = below; others = others }) }

-- another thread gets another threshold
threshold_keeps : (s : Sched) (t threshold : ℕ) → IsKept s → t < 256 → threshold ≤ pr s t → runs s t ≡ false → IsKept (with_threshold s t threshold)
threshold_keeps s t threshold kept low upto other = record {
  laid_out = threshold_laid s t threshold kept.laid_out low upto;
  rightly = elim s.run as (λ o. s.run ≡ o → RunsRightly (with_threshold s t threshold) o) [
    | None ↦ λ none. at_run s None kept none
    | Some r ↦ λ running. let may : MayRun s r = at_run s (Some r) kept running in let same = th_other s t threshold r
        (runs_not s t r other running) in record
        { is_first = may.is_first; below_holders = may.below_holders; others = λ k d within apart. let high = may.others k d within apart in omega arith }
  ] refl;
}

fewer_held_keeps : (s : Sched) (t : ℕ) → IsKept s → IsKept (record s { held = without t s.held })
fewer_held_keeps s t kept = record {
  laid_out = fewer_held_laid s t kept.laid_out;
  rightly = elim s.run as (λ o. s.run ≡ o → RunsRightly (record s { held = without t s.held }) o) [
    | None ↦ λ none. at_run s None kept none
    | Some r ↦ λ running. let may : MayRun s r = at_run s
        (Some r) kept running in record
        { is_first = may.is_first; below_holders = All-filter (λ u. not (u == t)) (λ k. pr s r < pr s k) s.held may.below_holders; others = may.others }
  ] refl;
}

pub threshold_runner_keeps : (s : Sched) (t threshold : ℕ) → IsKept s → t < 256 → threshold ≤ pr s t → runs s t ≡ true
    → IsKept (giving_way (with_threshold s t threshold) t (best (with_threshold s t threshold)))
threshold_runner_keeps s t threshold kept low upto it_runs =
    let running = runs_is s t it_runs in
    let may : MayRun s t = at_run s (Some t) kept running in
    giving_way_keeps (with_threshold s t threshold) t (threshold_laid s t threshold kept.laid_out low upto) running may.is_first may.below_holders

pub threshold_other_keeps : (s : Sched) (t threshold : ℕ) → IsKept s → t < 256 → threshold ≤ pr s t → runs s t ≡ false
    → IsKept (released (with_threshold s t threshold) t)
threshold_other_keeps s t threshold kept low upto other =
    let now = with_threshold s t threshold in
    let set = threshold_keeps s t threshold kept low upto other in
    cond_both (th now t == pr now t) (record now { held = without t now.held }) now IsKept (λ _. fewer_held_keeps now t set) (λ _. set)

pub threshold_set_keeps : (s : Sched) (t threshold : ℕ) → IsKept s → t < 256 → threshold ≤ pr s t → IsKept (threshold_set s t threshold)
threshold_set_keeps s t threshold kept low upto =
    let now = with_threshold s t threshold in
    cond_both (runs s t) (giving_way now t (best now)) (released now t) IsKept (threshold_runner_keeps s t threshold kept low upto)
    (threshold_other_keeps s t threshold kept low upto)

-- SetPr
pr_own : (s : Sched) (t priority threshold : ℕ) → IsLaidOut s → t < 256 → pr (with_numbers s t priority threshold) t ≡ priority
pr_own s t priority threshold laid low = let long = laid.threads.0 in get_or-set_same s.priority t priority 0 (omega arith)

pr_other : (s : Sched) (t priority threshold u : ℕ) → u ≢ t → pr (with_numbers s t priority threshold) u ≡ pr s u
pr_other s t priority threshold u other = get_or-set_other s.priority t u priority 0 other

-- who is first of a priority stays so, where the thread isn't ready
first_stays : (s : Sched) (t priority threshold k : ℕ) → All (λ u. u ≢ t) s.order → first_at s (pr s k) ≡ Some k
    → first_at (with_numbers s t priority threshold) (pr (with_numbers s t priority threshold) k) ≡ Some k
first_stays s t priority threshold k unready first =
    let now = with_numbers s t priority threshold in
    let same = pr_other s t priority threshold k (find_has (λ u. u ≢ t) (λ u. pr s u == pr s k) s.order k unready first) in
    subst (λ p. first_at now p ≡ Some k) (sym same)
    (find_agree (λ u. pr now u == pr s k) (λ u. pr s u == pr s k) s.order
    (λ j d within. ap (λ p. p == pr s k) (pr_other s t priority threshold _ (unready j d within))) ∙ first)

numbers_laid : (s : Sched) (t priority threshold : ℕ) → IsLaidOut s → All (λ u. u ≢ t) s.order → t < 256 → threshold ≤ priority → priority < s.levels
    → IsLaidOut (with_numbers s t priority threshold)
numbers_laid s t priority threshold laid unready low upto level =
    let now = with_numbers s t priority threshold in
    let unheld = held_has (λ u. u ≢ t) s laid unready in
    record {
      threads = (length-set s.priority t priority ∙ laid.threads.0, length-set s.threshold t threshold ∙ laid.threads.1);
      levels = laid.levels;
      in_levels = λ u. ⊎_elim (λ same. let own = pr_own s t priority threshold laid low in subst (λ v. pr now v < s.levels) (sym same) (omega arith))
          (λ other. let stays = pr_other s t priority threshold u other in let had = laid.in_levels u in omega arith) (cases_eq u t);
      thresholds = λ u. ⊎_elim
          (λ same. let own = pr_own s t priority threshold laid low in let own_th = th_own s t threshold laid low in subst (λ v. th now v ≤ pr now v) (sym same)
          (omega arith)) (λ other. let stays = pr_other s t priority threshold u other in let stays_th = th_other s t threshold u other in let
          had = laid.thresholds u in omega arith) (cases_eq u t);
      in_range = laid.in_range;
      each_once = laid.each_once;
      by_priority = λ i j d earlier below. let had = laid.by_priority i j d earlier below in let first = pr_other s t priority threshold _
          (unready i d (omega arith)) in let second = pr_other s t priority threshold _ (unready j d below) in omega arith;
      holders_climb = λ i j d earlier below. let had = laid.holders_climb i j d earlier below in let first = pr_other s t priority threshold _
          (unheld i d (omega arith)) in let second = pr_other s t priority threshold _ (unheld j d below) in omega arith;
      holders_are_first = λ k d within. first_stays s t priority threshold _ unready (laid.holders_are_first k d within);
    }

numbers_may_run : (s : Sched) (t priority threshold r : ℕ) → IsLaidOut s → All (λ u. u ≢ t) s.order → MayRun s r
    → MayRun (with_numbers s t priority threshold) r
numbers_may_run s t priority threshold r laid unready may =
    let unheld = held_has (λ u. u ≢ t) s laid unready in
    let other = find_has (λ u. u ≢ t) (λ u. pr s u == pr s r) s.order r unready may.is_first in
    let own = pr_other s t priority threshold r other in
    let own_th = th_other s t threshold r other in
    record {
      is_first = first_stays s t priority threshold r unready may.is_first;
      below_holders = λ k d within. let below = may.below_holders k d within in let stays = pr_other s t priority threshold _
          (unheld k d within) in omega arith;
      others = λ k d within apart. let high = may.others k d within apart in let stays = pr_other s t priority threshold _ (unready k d within) in omega arith;
    }

numbers_keep : (s : Sched) (t priority threshold : ℕ) → IsKept s → All (λ u. u ≢ t) s.order → t < 256 → threshold ≤ priority → priority < s.levels
    → IsKept (with_numbers s t priority threshold)
numbers_keep s t priority threshold kept unready low upto level = record {
  laid_out = numbers_laid s t priority threshold kept.laid_out unready low upto level;
  rightly = elim s.run as (λ o. s.run ≡ o → RunsRightly (with_numbers s t priority threshold) o) [
    | None ↦ λ none. at_run s None kept none
    | Some r ↦ λ running. numbers_may_run s t priority threshold r kept.laid_out unready (at_run s (Some r) kept running)
  ] refl;
}

pub no_holder_at : (s : Sched) (t : ℕ) → list_any (λ k. pr s k == pr s t) s.held ≡ false → All (λ k. pr s k ≢ pr s t) s.held
no_holder_at s t none = λ k d within. eqb-false _ _ (any_not (λ u. pr s u == pr s t) s.held none k d within)

pub placed_again_laid : (s : Sched) (t : ℕ) → IsLaidOut s → t < 256 → All (λ u. u ≢ t) s.order → IsLaidOut (placed_again s t)
placed_again_laid s t laid low new =
    cond_both (list_any (λ k. pr s k == pr s t) s.held) (placed_last s t) (holding (placed_first s t) t) IsLaidOut (λ _. placed_last_laid s t laid low new)
    (λ none. let other = no_holder_at s t none in holding_laid (placed_first s t) t (placed_first_laid s t laid low new other)
    (first_in_is_first (pr s) t s.order) other)

-- a thread that is taken out gets other numbers
pub renumbered_laid : (s : Sched) (t priority threshold : ℕ) → IsLaidOut s → t < 256 → threshold ≤ priority → priority < s.levels
    → IsLaidOut (with_numbers (taken_out s t) t priority threshold)
renumbered_laid s t priority threshold laid low upto level =
    numbers_laid (taken_out s t) t priority threshold (taken_laid s t laid) (without_is_not t s.order) low upto level

none_has : (t : ℕ) (ts : List ℕ) → All (λ u. u ≢ t) ts → has t ts ≡ false
none_has t [] none = refl
none_has t (u ∷ us) none = or_from (u == t) (has t us) (ne_eqb u t (All-head (λ v. v ≢ t) u us none)) (none_has t us (All-tail (λ v. v ≢ t) u us none))

pub renumbered_keeps : (s : Sched) (t priority threshold : ℕ) → IsKept s → t < 256 → threshold ≤ priority → priority < s.levels → runs s t ≡ false
    → IsKept (with_numbers (taken_out s t) t priority threshold)
renumbered_keeps s t priority threshold kept low upto level other =
    numbers_keep (taken_out s t) t priority threshold (taken_keeps s t kept other) (without_is_not t s.order) low upto level

pub renumbered_unready : (s : Sched) (t priority threshold : ℕ) → is_ready (with_numbers (taken_out s t) t priority threshold) t ≡ false
renumbered_unready s t priority threshold = none_has t (without t s.order) (without_is_not t s.order)

pub priority_runner_keeps : (s : Sched) (t priority threshold : ℕ) → IsKept s → t < 256 → threshold ≤ priority → priority < s.levels
    → IsKept (pick (placed_again (with_numbers (taken_out s t) t priority threshold) t))
priority_runner_keeps s t priority threshold kept low upto level =
    let now = with_numbers (taken_out s t) t priority threshold in
    pick_keeps (placed_again now t)
    (placed_again_laid now t (renumbered_laid s t priority threshold kept.laid_out low upto level) low (without_is_not t s.order))

pub priority_ready_keeps : (s : Sched) (t priority threshold : ℕ) → IsKept s → t < 256 → threshold ≤ priority → priority < s.levels → runs s t ≡ false
    → IsKept (readied (with_numbers (taken_out s t) t priority threshold) t)
priority_ready_keeps s t priority threshold kept low upto level other =
    readied_keeps (with_numbers (taken_out s t) t priority threshold) t (renumbered_keeps s t priority threshold kept low upto level other) low
    (renumbered_unready s t priority threshold)

pub priority_other_keeps : (s : Sched) (t priority threshold : ℕ) → IsKept s → t < 256 → threshold ≤ priority → priority < s.levels → is_ready s t ≡ false
    → IsKept (with_numbers s t priority threshold)
priority_other_keeps s t priority threshold kept low upto level unready = numbers_keep s t priority threshold kept (has_not t s.order unready) low upto level

pub priority_set_keeps : (s : Sched) (t priority threshold : ℕ) → IsKept s → t < 256 → threshold ≤ priority → priority < s.levels
    → IsKept (priority_set s t priority threshold)
priority_set_keeps s t priority threshold kept low upto level =
    let now = with_numbers (taken_out s t) t priority threshold in
    cond_both (runs s t) (pick (placed_again now t)) (if is_ready s t then readied now t else with_numbers s t priority threshold) IsKept
    (λ _. priority_runner_keeps s t priority threshold kept low upto level)
    (λ other. cond_both (is_ready s t) (readied now t) (with_numbers s t priority threshold) IsKept
    (λ _. priority_ready_keeps s t priority threshold kept low upto level other) (priority_other_keeps s t priority threshold kept low upto level))

-- which case of SetPr it is
pub priority_runner_is : (s : Sched) (t priority threshold : ℕ) → runs s t ≡ true
    → pick (placed_again (with_numbers (taken_out s t) t priority threshold) t) ≡ priority_set s t priority threshold
priority_runner_is s t priority threshold it_runs =
    sym (cond-true (runs s t) _ (if is_ready s t then readied (with_numbers (taken_out s t) t priority threshold) t else with_numbers s t priority threshold)
    it_runs)

pub priority_ready_is : (s : Sched) (t priority threshold : ℕ) → runs s t ≡ false → is_ready s t ≡ true
    → readied (with_numbers (taken_out s t) t priority threshold) t ≡ priority_set s t priority threshold
priority_ready_is s t priority threshold other ready =
    sym (cond-false (runs s t) (pick (placed_again (with_numbers (taken_out s t) t priority threshold) t)) _ other
    ∙ cond-true (is_ready s t) _ (with_numbers s t priority threshold) ready)

-- one move, and every list of them
pub moved_keeps : (s : Sched) (m : Move) → IsKept s → MayMove s m → IsKept (moved s m)
moved_keeps s (Ready t) kept may = readied_keeps s t kept may.0 may.1
moved_keeps s (Unready t) kept may = unreadied_keeps s t kept
moved_keeps s Yield kept may = yielded_keeps s kept
moved_keeps s (SetThreshold t threshold) kept may = threshold_set_keeps s t threshold kept may.0 may.1
moved_keeps s (SetPriority t priority threshold) kept may = priority_set_keeps s t priority threshold kept may.0 may.1 may.2

pub moves_keep : MovesKeepTheFacts
moves_keep s [] kept may = kept
moves_keep s (m ∷ ms) kept may = moves_keep (moved s m) ms (moved_keeps s m kept may.0) may.1

distinct_held : (s : Sched) → IsLaidOut s → AllPairs (λ u v. v ≢ u) s.held
distinct_held s laid i j d earlier below same = let climbs = laid.holders_climb i j d earlier below in let equal = ap (pr s) same in omega arith

-- there is room for one more holder
pub held_room : (s : Sched) (t : ℕ) → IsLaidOut s → t < 256 → All (λ k. pr s k ≢ pr s t) s.held → length s.held < 256
held_room s t laid low other =
    room t s.held low (held_has (λ u. u < 256) s laid laid.in_range) (distinct_held s laid) (λ k d within same. other k d within (ap (pr s) same))

pub sorted_held : (s : Sched) → IsLaidOut s → AllPairs (λ k l. pr s k ≤ pr s l) s.held
sorted_held s laid i j d earlier below = let climbs = laid.holders_climb i j d earlier below in omega arith

-- the running thread is below each holder
pub runner_below : (s : Sched) → IsKept s → IfSome s.run (λ r. All (λ k. pr s r < pr s k) s.held)
runner_below s kept = elim s.run as (λ o. s.run ≡ o → IfSome o (λ r. All (λ k. pr s r < pr s k) s.held)) [
  | None ↦ λ none. tt
  | Some r ↦ λ running. let may : MayRun s r = at_run s (Some r) kept running in may.below_holders
] refl

-- no thread is ready yet
zero_number : (u : ℕ) → slice_index (replicate 256 0) u ≡ 0
zero_number u = ⊎_elim (λ within. get_or-replicate 256 u 0 0 within) (λ past. get_or_past (replicate 256 0) u 0 past) (cases_lt u 256)

pub empty_keeps : (levels : ℕ) → 32 ≤ levels → levels ≤ 1024
    → IsKept (record { levels = levels; priority = replicate 256 0; threshold = replicate 256 0; order = []; run = None; held = [] })
empty_keeps levels some most = record {
  laid_out = record {
    threads = (refl, refl);
    levels = (omega arith, most);
    in_levels = λ u. let zeros = zero_number u in omega arith;
    thresholds = λ u. let zeros = zero_number u in omega arith;
    in_range = All-nil (λ t. t < 256);
    each_once = λ i j d earlier below. absurd (omega arith);
    by_priority = λ i j d earlier below. absurd (omega arith);
    holders_climb = λ i j d earlier below. absurd (omega arith);
    holders_are_first = λ k d within. absurd (omega arith);
  };
  rightly = refl;
}

-- a state that is set up anew
pub placed_all_is : (s : Sched) (ts : List ℕ) → placed_all s ts ≡ record s { order = fold (λ us t. last_in (pr s) t us) s.order ts }
placed_all_is s [] = refl
placed_all_is s (t ∷ ts) = placed_all_is (placed_last s t) ts

-- there is room for it
pub restored_room : (s : Sched) (ready : List ℕ) (run : Option ℕ) (held : List ℕ) → s.order ≡ [] → IsKept (restored s ready run held) → length ready ≤ 256
restored_room s ready run held none kept =
    let most = pigeonhole 256 (placed_all s ready).order kept.laid_out.in_range kept.laid_out.each_once in
    let long = ap (λ (now : Sched). length now.order) (placed_all_is s ready) ∙ length-all_last (pr s) s.order ready in
    omega arith

pub restored_held_room : (s : Sched) (ready : List ℕ) (run : Option ℕ) (held : List ℕ) → IsKept (restored s ready run held) → length held ≤ 256
restored_held_room s ready run held kept =
    let now = restored s ready run held in
    pigeonhole 256 held (held_has (λ u. u < 256) now kept.laid_out kept.laid_out.in_range) (distinct_held now kept.laid_out)
