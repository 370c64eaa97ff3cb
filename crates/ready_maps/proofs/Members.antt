-- Which threads are ready after a move. `has` is followed through a filter, an insertion and the
-- choice of the next thread, which changes no order.
use Rattle.std.proofs.Common.{◌≡◌, ℕ, ◌==◌, Bool, true, false, not, ◌&&◌, ◌||◌, nat_le, nat_lt, List, [], ◌∷◌, ◌++◌, find, filter, Option, None, Some, cond}
use Rattle.std.proofs.Common.{refl, ap, ◌∙◌, arith}
use Rattle.std.proofs.lemmas.Bool.{cond_both, eqb-true}
use Rattle.std.proofs.lemmas.Bool.Decides.{nat_tests}
use Rattle.std.proofs.lemmas.List.Folds.{list_any-append}
use Rattle.std.proofs.lemmas.Map.Views.{any-filter_same}
use Rattle.std.specs.List.{list_any, slice_get}
use Rattle.std.specs.Option.{option_map_or}
use Rattle.ready_maps.specs.Kept.{RunsRightly}
use Rattle.ready_maps.specs.Members.{ReadyAddsOne, UnreadyTakesOne, YieldKeepsReady, PriorityKeepsReady}
use Rattle.ready_maps.specs.Moves.{taken_out, placed_last, placed_first, placed_again, holding, challenged, readied, yielded_by, with_numbers}
use Rattle.ready_maps.specs.Sched.{Sched, pr, has, without, last_in, first_in, is_ready, runs, best, pick, picked, picked_before}

pub has-filter : (p : ℕ → Bool) (u : ℕ) (xs : List ℕ) → has u (filter p xs) ≡ (p u && has u xs)
has-filter p u xs = any-filter_same (λ v. v == u) p (p u) (λ v same. ap p (eqb-true v u same)) xs

pub has-without : (t u : ℕ) (xs : List ℕ) → has u (without t xs) ≡ (not (u == t) && has u xs)
has-without t u xs = has-filter (λ v. not (v == t)) u xs

-- a list that is cut by a test, with one element in between
has_between : (p q : ℕ → Bool) (t u : ℕ) (xs : List ℕ) → q u ≡ not (p u) → has u (filter p xs ++ t ∷ filter q xs) ≡ ((u == t) || has u xs)
has_between p q t u xs other =
    let joined = list_any-append (λ v. v == u) (filter p xs) (t ∷ filter q xs) in
    let before = has-filter p u xs in
    let behind = has-filter q u xs in
    grind (arith, nat_tests)

pub has-last_in : (by : ℕ → ℕ) (t u : ℕ) (xs : List ℕ) → has u (last_in by t xs) ≡ ((u == t) || has u xs)
has-last_in by t u xs =
    let other : nat_lt (by t) (by u) ≡ not (nat_le (by u) (by t)) = grind (arith, nat_tests) in
    has_between (λ v. nat_le (by v) (by t)) (λ v. nat_lt (by t) (by v)) t u xs other

pub has-first_in : (by : ℕ → ℕ) (t u : ℕ) (xs : List ℕ) → has u (first_in by t xs) ≡ ((u == t) || has u xs)
has-first_in by t u xs =
    let other : nat_le (by t) (by u) ≡ not (nat_lt (by u) (by t)) = grind (arith, nat_tests) in
    has_between (λ v. nat_lt (by v) (by t)) (λ v. nat_le (by t) (by v)) t u xs other

-- what is found stands in the list
pub has_found : (p : ℕ → Bool) (u : ℕ) (xs : List ℕ) → find p xs ≡ Some u → has u xs ≡ true
has_found p u [] found = grind arith
has_found p u (x ∷ xs) found =
    let later = has_found p u xs in
    grind (arith, nat_tests)

-- a thread that is taken out and put in again
again : (t u : ℕ) (now xs : List ℕ) → has u now ≡ ((u == t) || has u (without t xs)) → has t xs ≡ true → has u now ≡ has u xs
again t u now xs put member =
    let out = has-without t u xs in
    grind (arith, nat_tests)

order-holding : (s : Sched) (r : ℕ) → (holding s r).order ≡ s.order
order-holding s r = grind arith

order-challenged : (s : Sched) (t : ℕ) (o : Option ℕ) → (challenged s t o).order ≡ s.order
order-challenged s t None = refl
order-challenged s t (Some r) = grind arith

order-picked_before : (s : Sched) (h : ℕ) (o : Option ℕ) → (picked_before s h o).order ≡ s.order
order-picked_before s h None = refl
order-picked_before s h (Some k) = grind arith

order-picked : (s : Sched) (o : Option ℕ) → (picked s o).order ≡ s.order
order-picked s None = refl
order-picked s (Some h) = order-picked_before s h (slice_get s.held 0)

pub order-pick : (s : Sched) → (pick s).order ≡ s.order
order-pick s = order-picked s (best s)

pub ready_adds_one : ReadyAddsOne
ready_adds_one s t u =
    ap (has u) (order-challenged (placed_last s t) t s.run) ∙ has-last_in (pr s) t u s.order

pub unready_takes_one : UnreadyTakesOne
unready_takes_one s t u =
    let out = has-without t u s.order in
    let kept = ap (has u) (order-pick (taken_out s t)) in
    cond_both (runs s t) (pick (taken_out s t)) (taken_out s t) (λ now. is_ready now u ≡ (not (u == t) && is_ready s u)) (λ here. kept ∙ out) (λ other. out)

-- the thread that runs is ready
pub run_is_ready : (s : Sched) (r : ℕ) (o : Option ℕ) → RunsRightly s o → o ≡ Some r → is_ready s r ≡ true
run_is_ready s r None rightly same = grind arith
run_is_ready s r (Some q) rightly same =
    let member = has_found (λ v. pr s v == pr s q) q s.order rightly.is_first in
    grind arith

pub runs-Some : (s : Sched) (t : ℕ) → runs s t ≡ true → s.run ≡ Some t
runs-Some s t here = from_test s.run t here where
  from_test : (o : Option ℕ) (t : ℕ) → option_map_or (λ r. r == t) o false ≡ true → o ≡ Some t
  from_test None t here = grind arith
  from_test (Some r) t here = ap Some (eqb-true r t here)

yielded_ready : (s : Sched) (u : ℕ) (o : Option ℕ) → RunsRightly s o → is_ready (yielded_by s o) u ≡ is_ready s u
yielded_ready s u None rightly = refl
yielded_ready s u (Some r) rightly =
    let without_r = record s { order = without r s.order } in
    let placed = ap (has u) (order-pick (placed_last without_r r)) ∙ has-last_in (pr s) r u (without r s.order) in
    again r u (yielded_by s (Some r)).order s.order placed (run_is_ready s r (Some r) rightly refl)

pub yield_keeps_ready : YieldKeepsReady
yield_keeps_ready s u kept = yielded_ready s u s.run kept.rightly

has-placed_again : (s : Sched) (t u : ℕ) → is_ready (placed_again s t) u ≡ ((u == t) || is_ready s u)
has-placed_again s t u =
    let last = has-last_in (pr s) t u s.order in
    let first = ap (has u) (order-holding (placed_first s t) t) ∙ has-first_in (pr s) t u s.order in
    cond_both (list_any (λ k. pr s k == pr s t) s.held) (placed_last s t) (holding (placed_first s t) t) (λ now. is_ready now u ≡ ((u == t) || is_ready s u))
    (λ here. last) (λ other. first)

pub priority_keeps_ready : PriorityKeepsReady
priority_keeps_ready s t priority threshold u kept =
    let now = with_numbers (taken_out s t) t priority threshold in
    let running = pick (placed_again now t) in
    let P = λ (after : Sched). is_ready after u ≡ is_ready s u in
    cond_both (runs s t) running (cond (is_ready s t) (readied now t) (with_numbers s t priority threshold)) P
    (λ here. again t u running.order s.order (ap (has u) (order-pick (placed_again now t)) ∙ has-placed_again now t u)
    (run_is_ready s t s.run kept.rightly (runs-Some s t here)))
    (λ other. cond_both (is_ready s t) (readied now t) (with_numbers s t priority threshold) P
    (λ member. again t u (readied now t).order s.order (ready_adds_one now t u) member) (λ none. refl))
