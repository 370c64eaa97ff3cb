-- What is taken from free ranges comes from the first that holds it.
use Rattle.std.proofs.Common.{◌≡◌, ℕ, zero, suc, ◌+◌, ◌<◌, ◌≤◌, ◌^◌, Bool, true, false, nat_lt, List, [], ◌∷◌, ◌++◌, length, take, drop, slice_index_or, remove}
use Rattle.std.proofs.Common.{Option, None, Some, position, All, refl, sym, ap, subst, ◌∙◌, append_assoc, arith}
use Rattle.std.specs.List.{position_or_len}
use Rattle.std.proofs.lemmas.Bool.{cond-true, cond-false, cond_both, ltb-false, leb-true}
use Rattle.std.proofs.lemmas.List.{take_at, drop_at, length-take-le}
use Rattle.std.proofs.lemmas.List.Elements.{All-head, All-tail, All-get_or}
use Rattle.std.proofs.lemmas.List.Sums.{fails_before_first}
use Rattle.std.proofs.lemmas.List.Quantifiers.{position-Some}
use Rattle.module_loader.specs.Placement.{holds, in_front, left, piece, place_in, taken}
use Rattle.module_loader.specs.Taking.{IsAddressable}
use Rattle.module_loader.specs.declared.placement.Range.{Range}

-- a range gives its bytes, and what stays of it takes its place, where none before it holds them
given_by : (size : ℕ) (free : List Range) (i : ℕ) (d : Range) → i < length free → holds size (slice_index_or free i d) ≡ true
    → ((k : ℕ) → k < i → holds size (slice_index_or free k d) ≡ false)
    → taken size free
    ≡ Some (record { base = place_in (slice_index_or free i d); free = take i free ++ (left size (slice_index_or free i d) ++ drop (suc i) free) })
given_by size [] i d inside passes before = absurd (omega arith)
given_by size (r ∷ free) zero d inside passes before =
    cond-true (holds size r) (Some (record { base = place_in r; free = left size r ++ free })) (in_front r (taken size free)) passes
given_by size (r ∷ free) (suc i) d inside passes before =
    let later = given_by size free i d (omega arith) passes (λ k below. before (suc k) (omega arith)) in
    cond-false (holds size r) (Some (record { base = place_in r; free = left size r ++ free })) (in_front r (taken size free)) (before zero (omega arith))
    ∙ ap (in_front r) later

-- a part that is put between two others
put_between : (front between back : List Range) (i : ℕ) → length front ≡ i
    → take i (front ++ back) ++ (between ++ drop i (front ++ back)) ≡ front ++ (between ++ back)
put_between front between back i long = rw (take_at front back i long, drop_at front back i long) refl

-- the range is removed, and what stays of it put there, the higher part first
replaced : (size : ℕ) (free : List Range) (i : ℕ) (r : Range) (one two : List Range) → i ≤ length free
    → one ≡ take i (remove free i) ++ (piece (place_in r + size) (r.base + r.size) ++ drop i (remove free i))
    → two ≡ take i one ++ (piece r.base (place_in r) ++ drop i one) → two ≡ take i free ++ (left size r ++ drop (suc i) free)
replaced size free i r one two inside first second =
    let front = take i free in
    let back = drop (suc i) free in
    let high = piece (place_in r + size) (r.base + r.size) in
    let low = piece r.base (place_in r) in
    let long = length-take-le i free inside in
    let one_is : one ≡ front ++ (high ++ back) = first ∙ put_between front high back i long in
    let two_is : two ≡ front ++ (low ++ (high ++ back)) =
    second ∙ ap (λ (xs : List Range). take i xs ++ (low ++ drop i xs)) one_is ∙ put_between front low (high ++ back) i long in
    two_is ∙ ap (λ (xs : List Range). front ++ xs) (sym (append_assoc low high back))

pub taken_at : (size : ℕ) (free : List Range) (i : ℕ) (r : Range) (base : ℕ) (one two : List Range) → position (holds size) free ≡ Some i
    → r ≡ slice_index_or free i r → base ≡ place_in r → one ≡ take i (remove free i) ++ (piece (base + size) (r.base + r.size) ++ drop i (remove free i))
    → two ≡ take i one ++ (piece r.base base ++ drop i one) → taken size free ≡ Some (record { base = base; free = two })
taken_at size free i r base one two found here begins first second =
    let at = position-Some (holds size) free i r found in
    let inside : i ≤ length free = omega (arith, at.0) in
    let first_is = subst (λ (b : ℕ). one ≡ take i (remove free i) ++ (piece (b + size) (r.base + r.size) ++ drop i (remove free i))) begins first in
    let second_is = subst (λ (b : ℕ). two ≡ take i one ++ (piece r.base b ++ drop i one)) begins second in
    let whole = replaced size free i r one two inside first_is second_is in
    given_by size free i r at.0 at.1 at.2
    ∙ ap (λ (q : Range). Some (record { base = place_in q; free = take i free ++ (left size q ++ drop (suc i) free) })) (sym here)
    ∙ ap (λ (b : ℕ). Some (record { base = b; free = take i free ++ (left size r ++ drop (suc i) free) })) (sym begins)
    ∙ ap (λ (xs : List Range). Some (record { base = base; free = xs })) (sym whole)

fails_taken : (size : ℕ) (free : List Range) → All (λ r. holds size r ≡ false) free → taken size free ≡ None
fails_taken size [] all = refl
fails_taken size (r ∷ free) all =
    cond-false (holds size r) (Some (record { base = place_in r; free = left size r ++ free })) (in_front r (taken size free))
    (All-head (λ r. holds size r ≡ false) r free all)
    ∙ ap (in_front r) (fails_taken size free (All-tail (λ r. holds size r ≡ false) r free all))

-- where no place passes, each element fails
none_passes : {X : Type 0} (p : X → Bool) (xs : List X) → position p xs ≡ None → All (λ x. p x ≡ false) xs
none_passes {X} p xs none =
    let i = position_or_len p xs in
    let past = cond_both (nat_lt i (length xs)) (Some i) None
    (λ (o : Option ℕ). o ≡ None → length xs ≤ i) (λ found same. cc) (λ missed same. ltb-false i (length xs) missed) none in
    λ k d below. fails_before_first p xs k d (omega arith)

pub not_taken : (size : ℕ) (free : List Range) → position (holds size) free ≡ None → taken size free ≡ None
not_taken size free none = fails_taken size free (none_passes (holds size) free none)

-- what is taken ends in the range, which is addressable
pub record Holds (size : ℕ) (r : Range) : Type 0 where
  pub place : place_in r + size ≤ r.base + r.size
  pub end : r.base + r.size < 2 ^ 32

pub taken_fits : (size : ℕ) (free : List Range) (i : ℕ) (r : Range) → IsAddressable free → position (holds size) free ≡ Some i
    → r ≡ slice_index_or free i r → Holds size r
taken_fits size free i r addressable found here =
    let at = position-Some (holds size) free i r found in
    let held : holds size r ≡ true = ap (holds size) here ∙ at.1 in
    let end : r.base + r.size < 2 ^ 32 =
    subst (λ (q : Range). q.base + q.size < 2 ^ 32) (sym here) (All-get_or (λ q. q.base + q.size < 2 ^ 32) free i r at.0 addressable) in
    record { place = leb-true (place_in r + size) (r.base + r.size) held; end = end }
