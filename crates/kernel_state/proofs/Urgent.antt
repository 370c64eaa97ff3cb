-- The most urgent of a list of threads, found by one walk over it.
use Rattle.std.proofs.Common.{◌≡◌, ℕ, suc, ◌+◌, ◌<◌, ◌≤◌, ◌==◌, ◌&&◌, Bool, true, false, cond, List, [], ◌∷◌, drop, slice_get, find, Option, None, Some, refl, sym, ap, ◌∙◌, subst, ⊎_elim, arith}
use Rattle.std.specs.Prelude.{nat_eq, nat_le, nat_lt}
use Rattle.std.specs.List.{AllByRecursion, IsDistinct, after_first, list_all, position_or_len}
use Rattle.std.proofs.Math.Bool.{and-false}
use Rattle.std.proofs.lemmas.Bool.{and_from, and_parts, cond_both, cond-true, cond-false, eq-eqb, eqb-true, false≢true, false_from_ne_true, le-leb, leb-true, ltb-true, ltb-false, or_cases, or_right}
use Rattle.std.proofs.lemmas.Bool.Decides.{leb_tells}
use Rattle.suspend_lists.specs.ThreadList.{has}
use Rattle.kernel_state.proofs.AllEnded.{first_stands}

-- the first of the least, as it is found
abbrev test_in : (ℕ → ℕ) → List ℕ → ℕ → Bool
test_in f us t = list_all (λ u. nat_le (f t) (f u)) us

abbrev pub least : (ℕ → ℕ) → List ℕ → Option ℕ
least f ts = find (test_in f ts) ts

-- the first of the least, as a walk finds it: the best yet, or who is less after it
abbrev pub better : (ℕ → ℕ) → ℕ → ℕ → ℕ
better f best t = cond (nat_lt (f t) (f best)) t best

abbrev pub walked : (ℕ → ℕ) → ℕ → List ℕ → ℕ
walked f best [] = best
walked f best (t ∷ ts) = walked f (better f best t) ts

-- tests that agree at all find the same
find_same : (p q : ℕ → Bool) (xs : List ℕ) → ((x : ℕ) → p x ≡ q x) → find p xs ≡ find q xs
find_same p q [] same = refl
find_same p q (x ∷ xs) same =
    ap (λ (b : Bool). cond b (Some x) (find p xs)) (same x) ∙ ap (λ (o : Option ℕ). cond (q x) (Some x) o) (find_same p q xs same)

-- who is at most another is at most each that the other is
all_from : (f : ℕ → ℕ) (a b : ℕ) (us : List ℕ) → f a ≤ f b → test_in f us b ≡ true → test_in f us a ≡ true
all_from f a b [] below all = refl
all_from f a b (u ∷ us) below all =
    let parts = and_parts (nat_le (f b) (f u)) (test_in f us b) all in
    let at_most = leb-true (f b) (f u) parts.0 in
    and_from (nat_le (f a) (f u)) (test_in f us a) (le-leb (f a) (f u) (omega arith)) (all_from f a b us below parts.1)

-- a test that another one implies adds nothing to it
implied : (a b : Bool) → (b ≡ true → a ≡ true) → (a && b) ≡ b
implied true b then = refl
implied false true then = then refl
implied false false then = refl

-- a second that is less: the first is none of the least
less_second : (f : ℕ → ℕ) (t u : ℕ) (us : List ℕ) → f u < f t → least f (t ∷ u ∷ us) ≡ least f (u ∷ us)
less_second f t u us less =
    let p = test_in f (t ∷ u ∷ us) in
    let q = test_in f (u ∷ us) in
    let fails : nat_le (f t) (f u) ≡ false = ⊎_elim (λ it. absurd (omega (arith, it.1))) (λ it. it.0) (leb_tells (f t) (f u)) in
    let not_first : p t ≡ false = rw fails (and-false (nat_le (f t) (f t))) in
    cond-false (p t) (Some t) (find p (u ∷ us)) not_first
    ∙ find_same p q (u ∷ us) (λ x. implied (nat_le (f x) (f t)) (q x) (λ is.
    let at_most = leb-true (f x) (f u) (and_parts (nat_le (f x) (f u)) (test_in f us x) is).0 in
    le-leb (f x) (f t) (omega arith)))

-- a second that isn't: it is none that is found
more_second : (f : ℕ → ℕ) (t u : ℕ) (us : List ℕ) → f t ≤ f u → least f (t ∷ u ∷ us) ≡ least f (t ∷ us)
more_second f t u us more =
    let p = test_in f (t ∷ us) in
    let same : (x : ℕ) → test_in f (t ∷ u ∷ us) x ≡ p x = λ x. rest_same (nat_le (f x) (f t)) (nat_le (f x) (f u)) (test_in f us x)
    (λ is. let at_most = leb-true (f x) (f t) is in le-leb (f x) (f u) (omega arith)) in
    find_same (test_in f (t ∷ u ∷ us)) p (t ∷ u ∷ us) same
    ∙ cond_both (p t) (Some t) (find p (u ∷ us)) (λ o. o ≡ find p (t ∷ us))
    (λ is. sym (cond-true (p t) (Some t) (find p us) is))
    (λ is_not. cond-false (p u) (Some u) (find p us) (false_from_ne_true (p u) (λ it.
    let parts = and_parts (nat_le (f u) (f t)) (test_in f us u) it in
    false≢true (sym is_not ∙ and_from (nat_le (f t) (f t)) (test_in f us t) (le-leb (f t) (f t) (omega arith)) (all_from f t u us more parts.1))))
    ∙ sym (cond-false (p t) (Some t) (find p us) is_not)) where
      rest_same : (a b c : Bool) → (a ≡ true → b ≡ true) → (a && (b && c)) ≡ (a && c)
      rest_same true b c then = let is : b ≡ true = then refl in rw is refl
      rest_same false b c then = refl

-- the walk finds it
pub walk_finds : (f : ℕ → ℕ) (t : ℕ) (ts : List ℕ) → least f (t ∷ ts) ≡ Some (walked f t ts)
walk_finds f t [] = let itself : nat_le (f t) (f t) ≡ true = le-leb (f t) (f t) (omega arith) in rw itself refl
walk_finds f t (u ∷ us) =
    cond_both (nat_lt (f u) (f t)) u t (λ (best : ℕ). least f (t ∷ u ∷ us) ≡ Some (walked f best us))
    (λ less. less_second f t u us (ltb-true (f u) (f t) less) ∙ walk_finds f u us)
    (λ more. more_second f t u us (ltb-false (f u) (f t) more) ∙ walk_finds f t us)

-- who comes after a thread of a list without repeats, and whom a walk still has before it
after_here : (p : ℕ → Bool) (x : ℕ) (xs : List ℕ) → p x ≡ true → after_first p (x ∷ xs) ≡ xs
after_here p x xs is = rw is refl

after_there : (p : ℕ → Bool) (x : ℕ) (xs : List ℕ) → p x ≡ false → after_first p (x ∷ xs) ≡ after_first p xs
after_there p x xs is =
    let n = position_or_len p xs in
    let one_more : 1 + n + 1 ≡ suc (n + 1) = omega arith in
    rw is (ap (λ i. drop i (x ∷ xs)) one_more)

by_first : (p : ℕ → Bool) (x : ℕ) (xs : List ℕ) (P : List ℕ → Type 0) → (p x ≡ true → P xs) → (p x ≡ false → P (after_first p xs)) → P (after_first p (x ∷ xs))
by_first p x xs P here there = by_test (p x) refl where
  by_test : (b : Bool) → p x ≡ b → P (after_first p (x ∷ xs))
  by_test true is = subst P (sym (after_here p x xs is)) (here is)
  by_test false is = subst P (sym (after_there p x xs is)) (there is)

stands_after : (p : ℕ → Bool) (xs : List ℕ) (u : ℕ) (us : List ℕ) → after_first p xs ≡ u ∷ us → has u xs ≡ true
stands_after p [] u us is = absurd (cc)
stands_after p (x ∷ xs) u us is = by_first p x xs (λ ys. ys ≡ u ∷ us → has u (x ∷ xs) ≡ true)
    (λ _ here. or_right (u == x) (has u xs) (ap (has u) here ∙ first_stands u us))
    (λ _ there. or_right (u == x) (has u xs) (stands_after p xs u us there))
    is

apart_from : (x u : ℕ) (xs : List ℕ) → AllByRecursion (λ y. nat_eq x y ≡ false) xs → has u xs ≡ true → (u == x) ≡ false
apart_from x u [] apart there = absurd (false≢true there)
apart_from x u (y ∷ ys) apart there =
    ⊎_elim
    (λ (here : (u == y) ≡ true). false_from_ne_true (u == x) (λ same.
    false≢true (sym apart.0 ∙ eq-eqb x y (sym (eqb-true u x same) ∙ eqb-true u y here))))
    (λ later. apart_from x u ys apart.1 later)
    (or_cases (u == y) (has u ys) there)

rest_after : (t u : ℕ) (us xs : List ℕ) → IsDistinct nat_eq xs → after_first (λ v. t == v) xs ≡ u ∷ us → after_first (λ v. u == v) xs ≡ us
unfolding IsDistinct
rest_after t u us [] once is = absurd (cc)
rest_after t u us (x ∷ xs) once is = by_first (λ v. t == v) x xs (λ ys. ys ≡ u ∷ us → after_first (λ v. u == v) (x ∷ xs) ≡ us)
    (λ _ here. after_there (λ v. u == v) x xs (apart_from x u xs once.0 (ap (has u) here ∙ first_stands u us))
    ∙ (ap (after_first (λ v. u == v)) here ∙ after_here (λ v. u == v) u us (eq-eqb u u refl)))
    (λ _ there. after_there (λ v. u == v) x xs (apart_from x u xs once.0 (stands_after (λ v. t == v) xs u us there))
    ∙ rest_after t u us xs once.1 there)
    is

abbrev pub ahead : List ℕ → Option ℕ → List ℕ
ahead ws None = []
ahead ws (Some t) = t ∷ after_first (λ u. t == u) ws

pub ahead_of_next : (t : ℕ) (ws : List ℕ) → IsDistinct nat_eq ws → ahead ws (slice_get (after_first (λ u. t == u) ws) 0) ≡ after_first (λ u. t == u) ws
ahead_of_next t ws once = by_rest (after_first (λ u. t == u) ws) refl where
  by_rest : (ys : List ℕ) → after_first (λ u. t == u) ws ≡ ys → ahead ws (slice_get ys 0) ≡ ys
  by_rest [] is = refl
  by_rest (u ∷ us) is = ap (λ (vs : List ℕ). u ∷ vs) (rest_after t u us ws once is)

-- who is next stands in the list
pub next_stands : (t u : ℕ) (ws : List ℕ) → slice_get (after_first (λ v. t == v) ws) 0 ≡ Some u → has u ws ≡ true
next_stands t u ws is = by_rest (after_first (λ v. t == v) ws) refl is where
  by_rest : (ys : List ℕ) → after_first (λ v. t == v) ws ≡ ys → slice_get ys 0 ≡ Some u → has u ws ≡ true
  by_rest [] same none = absurd (cc)
  by_rest (x ∷ xs) same some = let here : x ≡ u = cc in stands_after (λ v. t == v) ws u xs (same ∙ ap (λ n. n ∷ xs) here)

-- the first of a list has the others after it
pub after_the_first : (t : ℕ) (ts : List ℕ) → after_first (λ u. t == u) (t ∷ ts) ≡ ts
after_the_first t ts = after_here (λ u. t == u) t ts (eq-eqb t t refl)
