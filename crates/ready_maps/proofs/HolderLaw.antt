-- The holder law. A thread that joins the holders ran until then: it is below every holder, and the
-- thread that runs in its place is below its threshold. A held thread stays well held, since whoever
-- runs or is held in another's place has a priority no larger, and the first holder, which runs
-- again, is below each later one.
use Rattle.std.proofs.Common.{◌≡◌, ◌≢◌, ℕ, ◌<◌, ◌≤◌, ◌==◌, ◌||◌, true, false, not, nat_le, nat_lt, suc, List, [], ◌∷◌, drop, filter, All, AllPairs, Option}
use Rattle.std.proofs.Common.{None, Some, ⊎_elim, subst, sym, ap, ◌∙◌, refl, arith}
use Rattle.std.specs.Prelude.{IfSome}
use Rattle.std.proofs.lemmas.Bool.{cond_both, or_cases, and_parts, both_ways, eqb-true, false≢true, leb-false, ltb-true}
use Rattle.std.proofs.lemmas.List.{get_or-set_same, get_or-set_other}
use Rattle.std.proofs.lemmas.List.Elements.{All-append, All-cons, All-drop, All-filter, All-head, All-same, All-tail, All-weaker}
use Rattle.std.proofs.lemmas.List.Kept.{AllPairs-filter}
use Rattle.std.specs.List.{slice_get}
use Rattle.ready_maps.specs.Kept.{IsKept, RunsRightly}
use Rattle.ready_maps.specs.Laws.{moved, MayMove, IsWellHeld, HolderJoinsLaw, HolderStaysLaw}
use Rattle.ready_maps.specs.Laws.Move.{Ready, Unready, Yield, SetThreshold, SetPriority}
use Rattle.ready_maps.specs.Moves.{challenged, giving_way, holding, placed_last, released, taken_out, with_threshold, yielded_by}
use Rattle.ready_maps.specs.Sched.{Sched, pr, th, has, without, first_in, first_at, best, is_held, runs, pick, picked, picked_before}
use Rattle.ready_maps.proofs.Members.{has-first_in, has-without, runs-Some}

All-first_in : (P : ℕ → Type 0) (by : ℕ → ℕ) (t : ℕ) (xs : List ℕ) → P t → All P xs → All P (first_in by t xs)
All-first_in P by t xs own each =
    let before = λ (u : ℕ). nat_lt (by u) (by t) in
    let behind = λ (u : ℕ). nat_le (by t) (by u) in
    All-append P (filter before xs) (t ∷ filter behind xs) (All-filter before P xs each) (All-cons P t (filter behind xs) own (All-filter behind P xs each))

All-has : (P : ℕ → Type 0) (u : ℕ) (xs : List ℕ) → All P xs → has u xs ≡ true → P u
All-has P u [] each member = absurd (false≢true member)
All-has P u (x ∷ xs) each member =
    ⊎_elim (λ here. subst P (eqb-true x u here) (All-head P x xs each)) (λ later. All-has P u xs (All-tail P x xs each) later)
    (or_cases (x == u) (has u xs) member)

-- the first element and each later one
AllPairs-head : (R : ℕ → ℕ → Type 0) (x : ℕ) (xs : List ℕ) → AllPairs R (x ∷ xs) → All (R x) xs
AllPairs-head R x xs pairs = λ k d below. pairs 0 (suc k) d (omega arith) (omega arith)

-- where a thread is held, one runs
someone_runs : (s : Sched) (k : ℕ) → IsKept s → is_held s k ≡ true → s.run ≡ None → ⊥
someone_runs s k kept held none =
    let nothing : s.order ≡ [] = subst (RunsRightly s) none kept.rightly in
    let first = All-has (λ j. first_at s (pr s j) ≡ Some j) k s.held kept.laid_out.holders_are_first held in
    grind arith

below_holders : (s : Sched) (r : ℕ) → IsKept s → s.run ≡ Some r → All (λ j. pr s r < pr s j) s.held
below_holders s r kept runs =
    let rightly : RunsRightly s (Some r) = subst (RunsRightly s) runs kept.rightly in
    rightly.below_holders

th-with_threshold : (s : Sched) (t threshold : ℕ) → IsKept s → t < 256 → th (with_threshold s t threshold) t ≡ threshold
th-with_threshold s t threshold kept thread =
    let long = kept.laid_out.threads.1 in
    get_or-set_same s.threshold t threshold 0 (omega arith)

th-other : (s : Sched) (t threshold k : ℕ) → k ≢ t → th (with_threshold s t threshold) k ≡ th s k
th-other s t threshold k other = get_or-set_other s.threshold t k threshold 0 other

-- where thread j is to run before k, it has a priority below the threshold of k
abbrev IsBefore : Sched → ℕ → ℕ → Type 0
IsBefore s k j = pr s j < pr s k → pr s j < th s k

abbrev StaysWell : ℕ → Sched → Type 0
StaysWell k after = is_held after k ≡ true → IsWellHeld after k

-- r gives way to b, which is below the threshold of k
gives_way : (s : Sched) (r b k : ℕ) → IsBefore s k r → pr s b < th s k → All (IsBefore s k) s.held → StaysWell k (record (holding s r) { run = Some b })
gives_way s r b k before lower each =
    cond_both (nat_lt (th s r) (pr s r)) (record s { held = first_in (pr s) r s.held }) s (λ after. StaysWell k (record after { run = Some b }))
    (λ test held. record { is_held = held; runner = lower; holders = All-first_in (IsBefore s k) (pr s) r s.held before each })
    (λ test held. record { is_held = held; runner = lower; holders = each })

-- a thread that is held only afterwards is the one that gave way
joins_alone : (s : Sched) (r k : ℕ) → is_held s k ≡ false → is_held (holding s r) k ≡ true → k ≡ r
joins_alone s r k free =
    cond_both (nat_lt (th s r) (pr s r)) (record s { held = first_in (pr s) r s.held }) s (λ after. is_held after k ≡ true → k ≡ r)
    (λ test held. ⊎_elim (λ here. eqb-true k r here) (λ before. absurd (both_ways (has k s.held) free before))
    (or_cases (k == r) (has k s.held) (sym (has-first_in (pr s) r k s.held) ∙ held)))
    (λ test held. absurd (both_ways (has k s.held) free held))

joins_giving : (s : Sched) (r b k : ℕ) → pr s b < th s r → All (λ j. pr s r < pr s j) s.held → is_held s k ≡ false
    → StaysWell k (record (holding s r) { run = Some b })
joins_giving s r b k lower below free held =
    let each = All-weaker (λ j. pr s r < pr s j) (IsBefore s r) (λ j more less. absurd (omega arith)) s.held below in
    let own = gives_way s r b r (λ less. absurd (omega arith)) lower each in
    subst (λ j. StaysWell j (record (holding s r) { run = Some b })) (sym (joins_alone s r k free held)) own held

joins_challenged : (s : Sched) (t k : ℕ) (o : Option ℕ) → ((r : ℕ) → o ≡ Some r → All (λ j. pr s r < pr s j) s.held) → is_held s k ≡ false
    → is_held (challenged s t o) k ≡ true → IsWellHeld (challenged s t o) k
joins_challenged s t k None below free held = absurd (both_ways (has k s.held) free held)
joins_challenged s t k (Some r) below free kept =
    cond_both (nat_lt (pr s t) (th s r)) (record (holding s r) { run = Some t }) s (StaysWell k)
    (λ test. joins_giving s r t k (ltb-true (pr s t) (th s r) test) (below r refl) free)
    (λ test held. absurd (both_ways (has k s.held) free held)) kept

joins_giving_way : (s : Sched) (t k : ℕ) (o : Option ℕ) → All (λ j. pr s t < pr s j) s.held → is_held s k ≡ false → is_held (giving_way s t o) k ≡ true
    → IsWellHeld (giving_way s t o) k
joins_giving_way s t k None below free held = absurd (both_ways (has k s.held) free held)
joins_giving_way s t k (Some b) below free kept =
    cond_both (nat_lt (pr s b) (th s t)) (record (holding s t) { run = Some b }) s (StaysWell k)
    (λ test. joins_giving s t b k (ltb-true (pr s b) (th s t) test) below free)
    (λ test held. absurd (both_ways (has k s.held) free held)) kept

joins_released : (s : Sched) (t k : ℕ) → is_held s k ≡ false → is_held (released s t) k ≡ true → IsWellHeld (released s t) k
joins_released s t k free =
    cond_both (th s t == pr s t) (record s { held = without t s.held }) s (StaysWell k)
    (λ test held. absurd (both_ways (has k s.held) free (and_parts _ (has k s.held) (sym (has-without t k s.held) ∙ held)).1))
    (λ test held. absurd (both_ways (has k s.held) free held))

pub holder_joins : HolderJoinsLaw
holder_joins s (Ready t) k kept may well free held =
    joins_challenged (placed_last s t) t k s.run (λ r runs. below_holders s r kept runs) free held
holder_joins s (Unready t) k kept may well free held = absurd well
holder_joins s Yield k kept may well free held = absurd well
holder_joins s (SetThreshold t threshold) k kept may well free held =
    let now = with_threshold s t threshold in
    cond_both (runs s t) (giving_way now t (best now)) (released now t) (StaysWell k)
    (λ here. joins_giving_way now t k (best now) (below_holders s t kept (runs-Some s t here)) free)
    (λ other. joins_released now t k free) held
holder_joins s (SetPriority t priority threshold) k kept may well free held = absurd well

-- where the same thread runs on
runs_on : (s : Sched) (r k : ℕ) → s.run ≡ Some r → pr s r < th s k → All (IsBefore s k) s.held → StaysWell k s
runs_on s r k same own each held =
    record { is_held = held; runner = subst (λ o. IfSome o (λ q. pr s q < th s k)) (sym same) own; holders = each }

stays_challenged : (s : Sched) (t k : ℕ) (o : Option ℕ) → s.run ≡ o → o ≢ None → ((u : ℕ) → th s u ≤ pr s u) → IfSome o (λ r. pr s r < th s k)
    → All (IsBefore s k) s.held → StaysWell k (challenged s t o)
stays_challenged s t k None same some low own each = absurd (some refl)
stays_challenged s t k (Some r) same some low own each =
    cond_both (nat_lt (pr s t) (th s r)) (record (holding s r) { run = Some t }) s (StaysWell k)
    (λ test. let less = ltb-true (pr s t) (th s r) test in let bound = low r in gives_way s r t k (λ less. own) (omega arith) each)
    (λ test. runs_on s r k same own each)

stays_giving_way : (s : Sched) (t k : ℕ) (o : Option ℕ) → s.run ≡ Some t → th s t ≤ pr s t → pr s t < th s k → All (IsBefore s k) s.held
    → StaysWell k (giving_way s t o)
stays_giving_way s t k None same low own each = runs_on s t k same own each
stays_giving_way s t k (Some b) same low own each =
    cond_both (nat_lt (pr s b) (th s t)) (record (holding s t) { run = Some b }) s (StaysWell k)
    (λ test. let less = ltb-true (pr s b) (th s t) test in gives_way s t b k (λ less. own) (omega arith) each)
    (λ test. runs_on s t k same own each)

-- the first holder j, or else the best thread h, runs
stays_picked_before : (s : Sched) (h k : ℕ) (js : List ℕ) → s.held ≡ js → ((u : ℕ) → th s u ≤ pr s u) → AllPairs (λ i j. pr s i < pr s j) js
    → All (IsBefore s k) js → StaysWell k (picked_before s h (slice_get js 0))
stays_picked_before s h k [] same low climb each = λ held. absurd (false≢true (subst (λ js. has k js ≡ true) same held))
stays_picked_before s h k (j ∷ js) same low climb each =
    let first = All-head (IsBefore s k) j js each in
    let behind = AllPairs-head (λ i j. pr s i < pr s j) j js climb in
    let later : has k js ≡ true → pr s j < th s k = λ member. first (All-has (λ i. pr s j < pr s i) k js behind member) in
    let rest : drop 1 s.held ≡ js = ap (drop 1) same in
    cond_both (nat_le (th s j) (pr s h)) (record s { run = Some j; held = drop 1 s.held }) (record s { run = Some h }) (StaysWell k)
    (λ test held. record {
      is_held = held;
      runner = later (subst (λ xs. has k xs ≡ true) rest held);
      holders = All-drop (IsBefore s k) 1 s.held
          (All-same (IsBefore s k) s.held (j ∷ js) same each);
    })
    (λ test held.
    let urgent : pr s h < th s j = leb-false (th s j) (pr s h) test in
    let bound = low j in
    let member : ((j == k) || has k js) ≡ true = subst (λ xs. has k xs ≡ true) same held in
    let lower : pr s h < th s k = ⊎_elim (λ here. subst (λ i. pr s h < th s i) (eqb-true j k here) urgent) (λ behind_j. let own = later behind_j in omega arith)
    (or_cases (j == k) (has k js) member) in
    record { is_held = held; runner = lower; holders = All-same (IsBefore s k) s.held (j ∷ js) same each })

stays_picked : (s : Sched) (k : ℕ) (o : Option ℕ) → ((u : ℕ) → th s u ≤ pr s u) → AllPairs (λ i j. pr s i < pr s j) s.held → All (IsBefore s k) s.held
    → StaysWell k (picked s o)
stays_picked s k None low climb each held = record { is_held = held; runner = tt; holders = each }
stays_picked s k (Some h) low climb each held =
    stays_picked_before s h k s.held refl low climb each held

stays_unreadied : (s : Sched) (t k : ℕ) → IsKept s → IsWellHeld s k → StaysWell k (moved s (Unready t))
stays_unreadied s t k kept well =
    let left = λ (u : ℕ). not (u == t) in
    let each = All-filter left (IsBefore s k) s.held well.holders in
    let climb = AllPairs-filter (λ i j. pr s i < pr s j) left s.held kept.laid_out.holders_climb in
    cond_both (runs s t) (pick (taken_out s t)) (taken_out s t) (StaysWell k)
    (λ here. stays_picked (taken_out s t) k (best (taken_out s t)) kept.laid_out.thresholds climb each)
    (λ other held. record { is_held = held; runner = well.runner; holders = each })

stays_yielded : (s : Sched) (k : ℕ) (o : Option ℕ) → IsKept s → IsWellHeld s k → StaysWell k (yielded_by s o)
stays_yielded s k None kept well = λ held. well
stays_yielded s k (Some r) kept well =
    let now = placed_last (record s { order = without r s.order }) r in
    stays_picked now k (best now) kept.laid_out.thresholds kept.laid_out.holders_climb well.holders

stays_threshold_set : (s : Sched) (t threshold k : ℕ) → IsKept s → MayMove s (SetThreshold t threshold) → t ≢ k → IsWellHeld s k
    → StaysWell k (moved s (SetThreshold t threshold))
stays_threshold_set s t threshold k kept may other well =
    let now = with_threshold s t threshold in
    let same = sym (th-other s t threshold k (λ e. other (sym e))) in
    let runner = subst (λ n. IfSome s.run (λ r. pr s r < n)) same well.runner in
    let each = subst (λ n. All (λ j. pr s j < pr s k → pr s j < n) s.held) same well.holders in
    let set = th-with_threshold s t threshold kept may.0 in
    cond_both (runs s t) (giving_way now t (best now)) (released now t) (StaysWell k)
    (λ here.
    let ran = runs-Some s t here in
    stays_giving_way now t k (best now) ran (omega (arith, set, may.1)) (subst (λ o. IfSome o (λ r. pr s r < th now k)) ran runner) each)
    (λ rests. cond_both (th now t == pr now t) (record now { held = without t now.held }) now (StaysWell k)
    (λ test held. record { is_held = held; runner = runner; holders = All-filter (λ u. not (u == t)) (IsBefore now k) now.held each })
    (λ test held. record { is_held = held; runner = runner; holders = each }))

pub holder_stays : HolderStaysLaw
holder_stays s (Ready t) k kept may leaves well held =
    stays_challenged (placed_last s t) t k s.run refl (someone_runs s k kept well.is_held) kept.laid_out.thresholds well.runner well.holders held
holder_stays s (Unready t) k kept may leaves well held = stays_unreadied s t k kept well held
holder_stays s Yield k kept may leaves well held = stays_yielded s k s.run kept well held
holder_stays s (SetThreshold t threshold) k kept may leaves well held =
    stays_threshold_set s t threshold k kept may leaves well held
holder_stays s (SetPriority t priority threshold) k kept may leaves well held = absurd leaves
