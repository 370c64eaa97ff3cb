-- Who joins the holders, and who leaves them: whoever gives way with a threshold below its priority
-- joins, and a ready thread leaves only to run.
use Rattle.std.proofs.Common.{◌≡◌, ◌≢◌, ℕ, ◌<◌, ◌==◌, ◌||◌, true, false, not, nat_le, nat_lt, List, [], ◌∷◌, drop, Option, None, Some, ⊎_elim, subst, sym, ap}
use Rattle.std.proofs.Common.{◌∙◌, refl}
use Rattle.std.proofs.lemmas.Bool.{cond_both, or_cases, or_left, or_right, and_parts, and_from, both_ways, eq-eqb, lt-ltb, ne_eqb, not_from_false}
use Rattle.std.specs.List.{slice_get}
use Rattle.std.specs.Option.{option_map_or}
use Rattle.ready_maps.specs.Laws.{moved, GivingWayIsHeld, HolderLeavesLaw}
use Rattle.ready_maps.specs.Laws.Move.{Ready, Unready, Yield, SetThreshold, SetPriority}
use Rattle.ready_maps.specs.Moves.{challenged, giving_way, holding, placed_last, released, taken_out, with_threshold, yielded_by}
use Rattle.ready_maps.specs.Sched.{Sched, pr, th, has, without, first_in, best, is_held, is_ready, runs, pick, picked, picked_before}
use Rattle.ready_maps.proofs.Members.{has-first_in, has-without, order-pick, runs-Some}

runs_since : (s : Sched) (r : ℕ) → s.run ≡ Some r → runs s r ≡ true
runs_since s r same = subst (λ o. option_map_or (λ q. q == r) o false ≡ true) (sym same) (eq-eqb r r refl)

held_by_holding : (s : Sched) (r : ℕ) → th (holding s r) r < pr (holding s r) r → is_held (holding s r) r ≡ true
held_by_holding s r =
    cond_both (nat_lt (th s r) (pr s r)) (record s { held = first_in (pr s) r s.held }) s (λ after. th after r < pr after r → is_held after r ≡ true)
    (λ test less. has-first_in (pr s) r r s.held ∙ or_left (r == r) (has r s.held) (eq-eqb r r refl))
    (λ test less. absurd (both_ways (nat_lt (th s r) (pr s r)) test (lt-ltb (th s r) (pr s r) less)))

abbrev Holds : ℕ → Sched → Type 0
Holds r after = runs after r ≡ false → th after r < pr after r → is_held after r ≡ true

runs_on : (s : Sched) (r : ℕ) → runs s r ≡ true → Holds r s
runs_on s r here off less = absurd (both_ways (runs s r) off here)

holds_challenged : (s : Sched) (t r : ℕ) → s.run ≡ Some r → Holds r (challenged s t (Some r))
holds_challenged s t r same =
    cond_both (nat_lt (pr s t) (th s r)) (record (holding s r) { run = Some t }) s (Holds r) (λ test off. held_by_holding s r)
    (λ test. runs_on s r (runs_since s r same))

holds_giving_way : (s : Sched) (r : ℕ) (o : Option ℕ) → s.run ≡ Some r → Holds r (giving_way s r o)
holds_giving_way s r None same = runs_on s r (runs_since s r same)
holds_giving_way s r (Some b) same =
    cond_both (nat_lt (pr s b) (th s r)) (record (holding s r) { run = Some b }) s (Holds r) (λ test off. held_by_holding s r)
    (λ test. runs_on s r (runs_since s r same))

holds_threshold_set : (s : Sched) (t threshold r : ℕ) → s.run ≡ Some r → Holds r (moved s (SetThreshold t threshold))
holds_threshold_set s t threshold r same =
    let now = with_threshold s t threshold in
    let here = runs_since s r same in
    cond_both (runs s t) (giving_way now t (best now)) (released now t) (Holds r)
    (λ its.
    let own : t ≡ r = let e = runs-Some s t its in cc in
    subst (λ q. Holds r (giving_way now q (best now))) (sym own) (holds_giving_way now r (best now) same))
    (λ other. cond_both (th now t == pr now t) (record now { held = without t now.held }) now (Holds r)
    (λ test. runs_on (record now { held = without t now.held }) r here)
    (λ test. runs_on now r here))

pub giving_way_is_held : GivingWayIsHeld
giving_way_is_held s (Ready t) r joins same =
    subst (λ o. Holds r (challenged (placed_last s t) t o)) (sym same) (holds_challenged (placed_last s t) t r same)
giving_way_is_held s (Unready t) r joins same = absurd joins
giving_way_is_held s Yield r joins same = absurd joins
giving_way_is_held s (SetThreshold t threshold) r joins same = holds_threshold_set s t threshold r same
giving_way_is_held s (SetPriority t priority threshold) r joins same = absurd joins

abbrev Leaves : ℕ → Sched → Type 0
Leaves k after = is_held after k ≡ false → is_ready after k ≡ true → runs after k ≡ true

still_held : (s : Sched) (k : ℕ) → is_held s k ≡ true → Leaves k s
still_held s k held gone ready = absurd (both_ways (has k s.held) gone held)

held-holding : (s : Sched) (r k : ℕ) → is_held s k ≡ true → is_held (holding s r) k ≡ true
held-holding s r k held =
    cond_both (nat_lt (th s r) (pr s r)) (record s { held = first_in (pr s) r s.held }) s (λ after. is_held after k ≡ true)
    (λ test. has-first_in (pr s) r k s.held ∙ or_right (k == r) (has k s.held) held)
    (λ test. held)

leaves_giving : (s : Sched) (r b k : ℕ) → is_held s k ≡ true → Leaves k (record (holding s r) { run = Some b })
leaves_giving s r b k held = still_held (record (holding s r) { run = Some b }) k (held-holding s r k held)

leaves_challenged : (s : Sched) (t k : ℕ) (o : Option ℕ) → is_held s k ≡ true → Leaves k (challenged s t o)
leaves_challenged s t k None held = still_held (record s { run = Some t }) k held
leaves_challenged s t k (Some r) held =
    cond_both (nat_lt (pr s t) (th s r)) (record (holding s r) { run = Some t }) s (Leaves k) (λ test. leaves_giving s r t k held) (λ test. still_held s k held)

leaves_giving_way : (s : Sched) (t k : ℕ) (o : Option ℕ) → is_held s k ≡ true → Leaves k (giving_way s t o)
leaves_giving_way s t k None held = still_held s k held
leaves_giving_way s t k (Some b) held =
    cond_both (nat_lt (pr s b) (th s t)) (record (holding s t) { run = Some b }) s (Leaves k) (λ test. leaves_giving s t b k held) (λ test. still_held s k held)

-- the first holder j runs, or else the best thread h
leaves_picked_before : (s : Sched) (h k : ℕ) (js : List ℕ) → s.held ≡ js → is_held s k ≡ true → Leaves k (picked_before s h (slice_get js 0))
leaves_picked_before s h k [] same held = still_held (record s { run = Some h }) k held
leaves_picked_before s h k (j ∷ js) same held =
    let member : ((j == k) || has k js) ≡ true = subst (λ xs. has k xs ≡ true) same held in
    let rest : drop 1 s.held ≡ js = ap (drop 1) same in
    cond_both (nat_le (th s j) (pr s h)) (record s { run = Some j; held = drop 1 s.held }) (record s { run = Some h }) (Leaves k)
    (λ test gone ready. ⊎_elim (λ here. here) (λ later. absurd (both_ways (has k js) (subst (λ xs. has k xs ≡ false) rest gone) later))
    (or_cases (j == k) (has k js) member))
    (λ test. still_held (record s { run = Some h }) k held)

leaves_picked : (s : Sched) (k : ℕ) (o : Option ℕ) → is_held s k ≡ true → Leaves k (picked s o)
leaves_picked s k None held = still_held (record s { run = None }) k held
leaves_picked s k (Some h) held = leaves_picked_before s h k s.held refl held

leaves_unreadied : (s : Sched) (t k : ℕ) → is_held s k ≡ true → Leaves k (moved s (Unready t))
leaves_unreadied s t k held =
    let now = taken_out s t in
    let stays : is_ready now k ≡ true → is_held now k ≡ true = λ ready.
    let other = and_parts (not (k == t)) (has k s.order) (sym (has-without t k s.order) ∙ ready) in
    has-without t k s.held ∙ and_from (not (k == t)) (has k s.held) other.0 held in
    cond_both (runs s t) (pick now) now (Leaves k)
    (λ here gone ready. leaves_picked now k (best now) (stays (sym (ap (has k) (order-pick now)) ∙ ready)) gone ready)
    (λ rests gone ready. still_held now k (stays ready) gone ready)

leaves_yielded : (s : Sched) (k : ℕ) (o : Option ℕ) → is_held s k ≡ true → Leaves k (yielded_by s o)
leaves_yielded s k None held = still_held s k held
leaves_yielded s k (Some r) held =
    let now = placed_last (record s { order = without r s.order }) r in
    leaves_picked now k (best now) held

leaves_threshold_set : (s : Sched) (t threshold k : ℕ) → t ≢ k → is_held s k ≡ true → Leaves k (moved s (SetThreshold t threshold))
leaves_threshold_set s t threshold k other held =
    let now = with_threshold s t threshold in
    let apart = not_from_false (k == t) (ne_eqb k t (λ e. other (sym e))) in
    cond_both (runs s t) (giving_way now t (best now)) (released now t) (Leaves k)
    (λ here. leaves_giving_way now t k (best now) held)
    (λ rests. cond_both (th now t == pr now t) (record now { held = without t now.held }) now (Leaves k)
    (λ test. still_held (record now { held = without t now.held }) k (has-without t k s.held ∙ and_from (not (k == t)) (has k s.held) apart held))
    (λ test. still_held now k held))

pub holder_leaves : HolderLeavesLaw
holder_leaves s (Ready t) k leaves held = leaves_challenged (placed_last s t) t k s.run held
holder_leaves s (Unready t) k leaves held = leaves_unreadied s t k held
holder_leaves s Yield k leaves held = leaves_yielded s k s.run held
holder_leaves s (SetThreshold t threshold) k leaves held = leaves_threshold_set s t threshold k leaves held
holder_leaves s (SetPriority t priority threshold) k leaves held = absurd leaves
