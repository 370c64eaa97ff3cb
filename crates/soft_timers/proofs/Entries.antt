-- Lists of armed entries: searches by number, and how many there can be.
use Rattle.std.proofs.Common.{◌≡◌, ◌≢◌, ℕ, ◌<◌, ◌≤◌, ◌==◌, Bool, true, false, List, [], ◌∷◌, length, map, find, All, AllPairs, None, Some, ⊎_elim, sym, subst}
use Rattle.std.proofs.Common.{◌∙◌, arith}
use Rattle.std.proofs.lemmas.Bool.{eqb-true, ne_eqb, cond_both, or_cases}
use Rattle.std.proofs.lemmas.List.{get_or-map, length-map}
use Rattle.std.proofs.lemmas.List.Elements.{All-nil, All-cons, All-head, All-tail}
use Rattle.std.proofs.lemmas.Map.Keys.{IsDistinct-from_apart}
use Rattle.std.proofs.lemmas.Map.Steps.{length-le_from_distinct_below}
use Rattle.std.specs.Bool.{nat_eq}
use Rattle.std.specs.List.{list_any, IsDistinct}
use Rattle.soft_timers.specs.declared.due.Armed.{Armed}

pub no_entry : Armed
no_entry = record { id = 0; expiry = 0; arming = 0 }

-- what is found has what all have, and passes the test
pub find_has : (P : Armed → Type 0) (p : Armed → Bool) (es : List Armed) (e : Armed) → find p es ≡ Some e → All P es → P e
find_has P p [] e found all = absurd (cc)
find_has P p (x ∷ es) e found all =
    cond_both (p x) (Some x) (find p es) (λ o. o ≡ Some e → P e) (λ here same. let x_is_e : x ≡ e = cc in subst P x_is_e (All-head P x es all))
    (λ missed later. find_has P p es e later (All-tail P x es all)) found

-- where nothing is found, none passes the test
pub none_passes : (p : Armed → Bool) (es : List Armed) → find p es ≡ None → All (λ e. p e ≡ false) es
none_passes p [] none = All-nil (λ e. p e ≡ false)
none_passes p (x ∷ es) none =
    cond_both (p x) (Some x) (find p es) (λ o. o ≡ None → All (λ e. p e ≡ false) (x ∷ es)) (λ here never. absurd (cc))
    (λ missed later. All-cons (λ e. p e ≡ false) x es missed (none_passes p es later)) none

-- numbers that differ

distinct_numbers : (es : List Armed) → AllPairs (λ d e. d.id ≢ e.id) es → IsDistinct nat_eq (map (λ e. e.id) es)
distinct_numbers es apart =
    let mapped = length-map es (λ (e : Armed). e.id) in
    IsDistinct-from_apart nat_eq (map (λ e. e.id) es) (λ i j d before inside.
    let first = get_or-map (λ (e : Armed). e.id) es i no_entry d (omega arith) in
    let second = get_or-map (λ (e : Armed). e.id) es j no_entry d (omega arith) in
    ne_eqb _ _ (λ same. apart i j no_entry before (omega arith) (sym first ∙ (same ∙ second))))

below_all : (es : List Armed) (q : ℕ) → All (λ e. e.id < 512) es → list_any (λ n. q == n) (map (λ e. e.id) es) ≡ true → q < 512
below_all [] q low there = let never : false ≡ true = there in absurd (cc)
below_all (x ∷ es) q low there =
    ⊎_elim (λ same. let is_x = eqb-true q x.id same in let below = All-head (λ e. e.id < 512) x es low in omega arith)
    (λ later. below_all es q (All-tail (λ e. e.id < 512) x es low) later) (or_cases (q == x.id) (list_any (λ n. q == n) (map (λ e. e.id) es)) there)

-- at most 512 are armed
pub few : (es : List Armed) → AllPairs (λ d e. d.id ≢ e.id) es → All (λ e. e.id < 512) es → length es ≤ 512
few es apart low =
    let mapped = length-map es (λ (e : Armed). e.id) in
    let most = length-le_from_distinct_below (map (λ e. e.id) es) 512 (distinct_numbers es apart) (λ q there. below_all es q low there) in
    omega arith
