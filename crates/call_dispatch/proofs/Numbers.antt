-- A row is found by its number alone.
use Rattle.std.proofs.Common.{◌≡◌, ◌==◌, Bool, true, false, not, List, [], ◌∷◌, Option, Some, All, find, map, refl, sym, ◌∙◌, subst}
use Rattle.std.proofs.lemmas.Bool.{and_parts, cond-false, cond-true, cond_both, eq-eqb, eqb-true, false≢true, ne_eqb, not-true, or_parts}
use Rattle.std.proofs.lemmas.List.Elements.{All-cons, All-head, All-nil, All-tail}
use Rattle.ready_maps.specs.Sched.{has}
use Rattle.kernel_state.specs.Row.{Row, row_of}
use Rattle.call_dispatch.specs.Laws.{NumberNamesItsRow, RowHasItsNumber}
use Rattle.call_dispatch.specs.Services.{all_differ, row_asked, rows}

-- what is found passes the test, and what holds of each element holds of it
pub find_passes : (test : Row → Bool) (xs : List Row) (r : Row) → find test xs ≡ Some r → test r ≡ true
find_passes test [] r found = cc
find_passes test (x ∷ xs) r found =
    cond_both (test x) (Some x) (find test xs) (λ (o : Option Row). o ≡ Some r → test r ≡ true)
    (λ yes same. let is_x : x ≡ r = cc in subst (λ y. test y ≡ true) is_x yes)
    (λ no later. find_passes test xs r later)
    found

pub find_holds : (P : Row → Type 0) (test : Row → Bool) (xs : List Row) (r : Row) → All P xs → find test xs ≡ Some r → P r
find_holds P test [] r all found = cc
find_holds P test (x ∷ xs) r all found =
    cond_both (test x) (Some x) (find test xs) (λ (o : Option Row). o ≡ Some r → P r)
    (λ yes same. let is_x : x ≡ r = cc in subst P is_x (All-head P x xs all))
    (λ no later. find_holds P test xs r (All-tail P x xs all) later)
    found

pub row_has_its_number : RowHasItsNumber
unfolding row_asked
row_has_its_number n r found = eqb-true r.number n (find_passes (λ x. x.number == n) rows r found)

-- the computed test: no number stands twice
numbers_differ : all_differ (map (λ (r : Row). r.number) rows) ≡ true
numbers_differ = refl

abbrev IsFoundIn : List Row → Row → Type 0
IsFoundIn rs q = row_of q.number rs ≡ Some q

-- a row of another number before them changes nothing
found_after : (r : Row) (rs qs : List Row) → has r.number (map (λ (x : Row). x.number) qs) ≡ false → All (IsFoundIn rs) qs → All (IsFoundIn (r ∷ rs)) qs
found_after r rs [] none all = All-nil (IsFoundIn (r ∷ rs))
found_after r rs (q ∷ qs) none all =
    let parts = or_parts (q.number == r.number) (has r.number (map (λ (x : Row). x.number) qs)) none in
    let other : (r.number == q.number) ≡ false = ne_eqb r.number q.number (λ same. false≢true (sym parts.0 ∙ eq-eqb q.number r.number (sym same))) in
    All-cons (IsFoundIn (r ∷ rs)) q qs
    (cond-false (r.number == q.number) (Some r) (row_of q.number rs) other ∙ All-head (IsFoundIn rs) q qs all)
    (found_after r rs qs parts.1 (All-tail (IsFoundIn rs) q qs all))

-- where all numbers differ each row is found by its own
all_are_found : (rs : List Row) → all_differ (map (λ (x : Row). x.number) rs) ≡ true → All (IsFoundIn rs) rs
all_are_found [] differ = All-nil (IsFoundIn [])
all_are_found (r ∷ rs) differ =
    let parts = and_parts (not (has r.number (map (λ (x : Row). x.number) rs))) (all_differ (map (λ (x : Row). x.number) rs)) differ in
    All-cons (IsFoundIn (r ∷ rs)) r rs
    (cond-true (r.number == r.number) (Some r) (row_of r.number rs) (eq-eqb r.number r.number refl))
    (found_after r rs rs (not-true (has r.number (map (λ (x : Row). x.number) rs)) parts.0) (all_are_found rs parts.1))

pub number_names_its_row : NumberNamesItsRow
unfolding row_asked
number_names_its_row = all_are_found rows numbers_differ
