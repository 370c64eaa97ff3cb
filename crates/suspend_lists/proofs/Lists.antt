-- Lists of threads that one leaves or joins: who stands in them, and that each stands there once.
use Rattle.std.proofs.Common.{◌≡◌, ◌≢◌, ℕ, ◌<◌, ◌≤◌, ◌==◌, true, false, not, ◌&&◌, ◌||◌, List, [], ◌∷◌, ◌++◌, length, ⊎_elim, ap, sym, arith}
use Rattle.std.proofs.lemmas.Bool.{eqb-true, or_cases, or_parts, cases_Bool}
use Rattle.std.proofs.lemmas.Bool.Decides.{nat_tests, Decides-eqb}
use Rattle.std.proofs.lemmas.List.Folds.{list_any-append}
use Rattle.std.proofs.lemmas.List.Kept.{AllPairs-filter}
use Rattle.std.proofs.lemmas.List.Sums.{length-filter, count_by-le-length}
use Rattle.std.proofs.lemmas.Map.Keys.{IsDistinct-cons, IsDistinct-push}
use Rattle.std.proofs.lemmas.Map.Made.{AllPairs-from_IsDistinct, IsDistinct-from_AllPairs}
use Rattle.std.proofs.lemmas.Map.Steps.{length-le_from_distinct_below}
use Rattle.std.proofs.lemmas.Map.Views.{any-filter_same}
use Rattle.std.specs.Bool.{nat_eq}
use Rattle.std.specs.Cmp.{nat_eq_equiv}
use Rattle.std.specs.List.{IsDistinct, AllByRecursion}
use Rattle.suspend_lists.specs.ThreadList.{has, without}

-- who stands in a list

pub has-without : (t u : ℕ) (ts : List ℕ) → has u (without t ts) ≡ (not (t == u) && has u ts)
has-without t u ts = any-filter_same (λ v. u == v) (λ v. not (t == v)) (not (t == u)) (λ v same. ap (λ (x : ℕ). not (t == x)) (sym (eqb-true u v same))) ts

pub has-push : (t u : ℕ) (ts : List ℕ) → has u (ts ++ t ∷ []) ≡ (has u ts || (t == u))
has-push t u ts =
    let joined = list_any-append (λ v. u == v) ts (t ∷ []) in
    grind (arith, nat_tests)

-- each stands there once

pub distinct-without : (t : ℕ) (ts : List ℕ) → IsDistinct nat_eq ts → IsDistinct nat_eq (without t ts)
distinct-without t ts once =
    IsDistinct-from_AllPairs Decides-eqb (without t ts) (AllPairs-filter (λ x y. x ≢ y) (λ u. not (t == u)) ts (AllPairs-from_IsDistinct Decides-eqb ts once))

pub distinct-push : (t : ℕ) (ts : List ℕ) → IsDistinct nat_eq ts → has t ts ≡ false → IsDistinct nat_eq (ts ++ t ∷ [])
distinct-push t ts once new = IsDistinct-push nat_eq_equiv ts t once new

none_is : (t : ℕ) (ts : List ℕ) → has t ts ≡ false → AllByRecursion (λ u. nat_eq t u ≡ false) ts
none_is t [] none = tt
none_is t (u ∷ ts) none = let parts = or_parts (t == u) (has t ts) none in (parts.0, none_is t ts parts.1)

pub distinct-first : (t : ℕ) (ts : List ℕ) → IsDistinct nat_eq ts → has t ts ≡ false → IsDistinct nat_eq (t ∷ ts)
distinct-first t ts once new = IsDistinct-cons nat_eq t ts (none_is t ts new) once

pub not_has-without : (t : ℕ) (ts : List ℕ) → has t (without t ts) ≡ false
not_has-without t ts = let out = has-without t t ts in grind (arith, nat_tests)

-- how many there are

-- threads are below 256, so there is room for one more
pub room : (t : ℕ) (ts : List ℕ) → t < 256 → IsDistinct nat_eq ts → has t ts ≡ false → ((u : ℕ) → has u ts ≡ true → u < 256) → length ts < 256
room t ts low once new below =
    let all : (u : ℕ) → has u (t ∷ ts) ≡ true → u < 256 =
    λ u there. ⊎_elim (λ same. let is_t = eqb-true u t same in omega arith) (λ later. below u later) (or_cases (u == t) (has u ts) there) in
    let most = length-le_from_distinct_below (t ∷ ts) 256 (distinct-first t ts once new) all in
    omega arith

length-without-le : (t : ℕ) (ts : List ℕ) → length (without t ts) ≤ length ts
length-without-le t ts = let counted = length-filter (λ u. not (t == u)) ts in let most = count_by-le-length (λ u. not (t == u)) ts in omega arith

-- one who leaves makes room
pub shorter : (t : ℕ) (ts : List ℕ) → has t ts ≡ true → length (without t ts) < length ts
shorter t [] there = absurd (cc)
shorter t (u ∷ ts) there =
    ⊎_elim (λ here. let fewer = length-without-le t ts in rw here (omega arith))
    (λ other. let later : has t ts ≡ true = grind (arith, nat_tests) in let fewer = shorter t ts later in rw other (omega arith))
    (cases_Bool (t == u))
