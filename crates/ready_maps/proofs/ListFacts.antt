-- Lists of threads: searches in parts of a list, one thread put in, and how many threads there can be.
use Rattle.std.proofs.Common.{◌≡◌, ◌≢◌, ℕ, zero, suc, ◌<◌, ◌≤◌, ◌+◌, ◌==◌, Bool, true, false, not, nat_le, nat_lt, List, [], ◌∷◌, ◌++◌, length, filter, find}
use Rattle.std.proofs.Common.{All, AllPairs, None, Some, insert, fold, take, drop, slice_index_or, position, ⊎_elim, arith, ap, subst, sym, ◌∙◌, refl}
use Rattle.std.proofs.Common.{length-append}
use Rattle.std.proofs.lemmas.Bool.{cond_both, eq-eqb, eqb-true, eqb-false, leb-true, ltb-true, le-leb, ltb-false, lt-ltb, ne_eqb, not-true, not_from_false}
use Rattle.std.proofs.lemmas.Bool.{not_from_true, or_parts, cases_lt}
use Rattle.std.proofs.lemmas.Bool.Decides.{nat_tests}
use Rattle.std.proofs.lemmas.List.Elements.{All-append, All-cons, All-filter, All-head, All-nil, All-tail, All-weaker, filter_passes}
use Rattle.std.proofs.lemmas.List.Kept.{AllPairs-cons, AllPairs-filter}
use Rattle.std.proofs.lemmas.List.{take_more}
use Rattle.std.proofs.lemmas.List.Filters.{length-filter_both}
use Rattle.std.proofs.lemmas.List.Folds.{find-append}
use Rattle.std.proofs.lemmas.List.Sums.{fold_push, prefix_len-le-length}
use Rattle.std.specs.List.{list_any, slice_get, position_or_len}
use Rattle.std.specs.Option.{option_or, unwrap_or}
use Rattle.ready_maps.specs.Sched.{has, without, last_in, first_in}

-- a search

-- what is found is found again in a part that keeps it
pub find-filter : (p q : ℕ → Bool) (xs : List ℕ) (k : ℕ) → find p xs ≡ Some k → q k ≡ true → find p (filter q xs) ≡ Some k
find-filter p q [] k found kept = cc
find-filter p q (x ∷ xs) k found kept =
    cond_both (p x) (Some x) (find p xs) (λ o. o ≡ Some k → find p (filter q (x ∷ xs)) ≡ Some k)
    (λ here same. let x_is_k : x ≡ k = cc in let q_x : q x ≡ true = ap q x_is_k ∙ kept in rw (q_x, here) same)
    (λ missed later. let rest = find-filter p q xs k later kept in cond_both (q x) (x ∷ filter q xs) (filter q xs) (λ ys. find p ys ≡ Some k)
    (λ _. rw missed rest) (λ _. rest)) found

-- what is found passes the test, and has what all have
pub find_passes : (p : ℕ → Bool) (xs : List ℕ) (k : ℕ) → find p xs ≡ Some k → p k ≡ true
find_passes p [] k found = cc
find_passes p (x ∷ xs) k found =
    cond_both (p x) (Some x) (find p xs) (λ o. o ≡ Some k → p k ≡ true) (λ here same. let x_is_k : x ≡ k = cc in ap p (sym x_is_k) ∙ here)
    (λ missed later. find_passes p xs k later) found

pub find_has : (P : ℕ → Type 0) (p : ℕ → Bool) (xs : List ℕ) (k : ℕ) → All P xs → find p xs ≡ Some k → P k
find_has P p [] k all found = absurd (cc)
find_has P p (x ∷ xs) k all found =
    cond_both (p x) (Some x) (find p xs) (λ o. o ≡ Some k → P k) (λ here same. let x_is_k : x ≡ k = cc in subst P x_is_k (All-head P x xs all))
    (λ missed later. find_has P p xs k (All-tail P x xs all) later) found

pub find_none : (p : ℕ → Bool) (xs : List ℕ) → All (λ x. p x ≡ false) xs → find p xs ≡ None
find_none p [] all = refl
find_none p (x ∷ xs) all = let here : p x ≡ false = All-head (λ u. p u ≡ false) x xs all in rw here (find_none p xs (All-tail (λ u. p u ≡ false) x xs all))

-- two tests that agree at all find the same
pub find_agree : (p q : ℕ → Bool) (xs : List ℕ) → All (λ x. p x ≡ q x) xs → find p xs ≡ find q xs
find_agree p q [] all = refl
find_agree p q (x ∷ xs) all =
    let here : p x ≡ q x = All-head (λ u. p u ≡ q u) x xs all in rw (here, find_agree p q xs (All-tail (λ u. p u ≡ q u) x xs all)) refl

-- a search in joined lists
find_left : (p : ℕ → Bool) (xs ys : List ℕ) (k : ℕ) → find p xs ≡ Some k → find p (xs ++ ys) ≡ Some k
find_left p xs ys k found = find-append p xs ys ∙ ap (λ o. option_or o (find p ys)) found

find_right : (p : ℕ → Bool) (xs ys : List ℕ) → find p xs ≡ None → find p (xs ++ ys) ≡ find p ys
find_right p xs ys none = find-append p xs ys ∙ ap (λ o. option_or o (find p ys)) none

-- pairs

pub AllPairs-head : (R : ℕ → ℕ → Type 0) (x : ℕ) (xs : List ℕ) → AllPairs R (x ∷ xs) → All (R x) xs
AllPairs-head R x xs all k d below = all 0 (suc k) d (omega arith) (omega arith)

pub AllPairs-tail : (R : ℕ → ℕ → Type 0) (x : ℕ) (xs : List ℕ) → AllPairs R (x ∷ xs) → AllPairs R xs
AllPairs-tail R x xs all i j d earlier below = all (suc i) (suc j) d (omega arith) (omega arith)

pub AllPairs-append : (R : ℕ → ℕ → Type 0) (xs ys : List ℕ) → AllPairs R xs → AllPairs R ys → All (λ x. All (R x) ys) xs → AllPairs R (xs ++ ys)
AllPairs-append R [] ys front back across = back
AllPairs-append R (x ∷ xs) ys front back across =
    let rest = AllPairs-append R xs ys (AllPairs-tail R x xs front) back (All-tail (λ u. All (R u) ys) x xs across) in
    let head = All-append (R x) xs ys (AllPairs-head R x xs front) (All-head (λ u. All (R u) ys) x xs across) in
    AllPairs-cons R x (xs ++ ys) head rest

-- the first of a list

pub first_has : (P : ℕ → Type 0) (xs : List ℕ) (k : ℕ) → slice_get xs 0 ≡ Some k → All P xs → P k
first_has P [] k first all = absurd (cc)
first_has P (x ∷ xs) k first all = let x_is_k : x ≡ k = cc in subst P x_is_k (All-head P x xs all)

pub first_then : (P : ℕ → Type 0) (xs : List ℕ) (k : ℕ) → slice_get xs 0 ≡ Some k → P k → All P (drop 1 xs) → All P xs
first_then P [] k first here later = All-nil P
first_then P (x ∷ xs) k first here later = let k_is_x : k ≡ x = cc in All-cons P x xs (subst P k_is_x here) later

pub first_before : (R : ℕ → ℕ → Type 0) (xs : List ℕ) (k : ℕ) → slice_get xs 0 ≡ Some k → AllPairs R xs → All (R k) (drop 1 xs)
first_before R [] k first pairs = All-nil (R k)
first_before R (x ∷ xs) k first pairs = let x_is_k : x ≡ k = cc in subst (λ u. All (R u) xs) x_is_k (AllPairs-head R x xs pairs)

pub AllPairs-rest : (R : ℕ → ℕ → Type 0) (xs : List ℕ) → AllPairs R xs → AllPairs R (drop 1 xs)
AllPairs-rest R [] pairs = pairs
AllPairs-rest R (x ∷ xs) pairs = AllPairs-tail R x xs pairs

pub no_first : (xs : List ℕ) → slice_get xs 0 ≡ None → xs ≡ []
no_first [] none = refl
no_first (x ∷ xs) none = absurd (cc)

-- a part

filter_all : (p : ℕ → Bool) (xs : List ℕ) → All (λ x. p x ≡ true) xs → filter p xs ≡ xs
filter_all p [] all = refl
filter_all p (x ∷ xs) all =
    let here : p x ≡ true = All-head (λ u. p u ≡ true) x xs all in rw here (ap (λ ys. x ∷ ys) (filter_all p xs (All-tail (λ u. p u ≡ true) x xs all)))

filter_none : (p : ℕ → Bool) (xs : List ℕ) → All (λ x. p x ≡ false) xs → filter p xs ≡ []
filter_none p [] all = refl
filter_none p (x ∷ xs) all = let here : p x ≡ false = All-head (λ u. p u ≡ false) x xs all in rw here (filter_none p xs (All-tail (λ u. p u ≡ false) x xs all))

-- what isn't in a list isn't taken from it
pub any_not : (p : ℕ → Bool) (xs : List ℕ) → list_any p xs ≡ false → All (λ u. p u ≡ false) xs
any_not p [] none = All-nil (λ u. p u ≡ false)
any_not p (x ∷ xs) none = let parts = or_parts (p x) (list_any p xs) none in All-cons (λ u. p u ≡ false) x xs parts.0 (any_not p xs parts.1)

pub has_not : (t : ℕ) (xs : List ℕ) → has t xs ≡ false → All (λ u. u ≢ t) xs
has_not t xs none = All-weaker (λ u. (u == t) ≡ false) (λ u. u ≢ t) (λ u other. eqb-false u t other) xs (any_not (λ u. u == t) xs none)

pub without_is_not : (t : ℕ) (xs : List ℕ) → All (λ u. u ≢ t) (without t xs)
without_is_not t xs =
    All-weaker (λ u. not (u == t) ≡ true) (λ u. u ≢ t) (λ u kept. eqb-false u t (not-true (u == t) kept)) (without t xs) (filter_passes (λ u. not (u == t)) xs)

without_none : (t : ℕ) (xs : List ℕ) → All (λ u. u ≢ t) xs → without t xs ≡ xs
without_none t xs none =
    filter_all (λ u. not (u == t)) xs (All-weaker (λ u. u ≢ t) (λ u. not (u == t) ≡ true) (λ u other. not_from_false (u == t) (ne_eqb u t other)) xs none)

-- one put in where a test begins to hold

insert_next : (x t : ℕ) (xs : List ℕ) (i : ℕ) → insert (x ∷ xs) (1 + i) t ≡ x ∷ insert xs i t
insert_next x t xs i = let next : 1 + i ≡ suc i = omega arith in rw next refl

put_at_first : (p q : ℕ → Bool) (t : ℕ) (xs : List ℕ) → ((x : ℕ) → q x ≡ not (p x)) → AllPairs (λ u v. p u ≡ true → p v ≡ true) xs
    → insert xs (position_or_len p xs) t ≡ filter q xs ++ t ∷ filter p xs
put_at_first p q t [] other lasting = refl
put_at_first p q t (x ∷ xs) other lasting =
    let rest = put_at_first p q t xs other (AllPairs-tail (λ u v. p u ≡ true → p v ≡ true) x xs lasting) in
    let later = AllPairs-head (λ u v. p u ≡ true → p v ≡ true) x xs lasting in
    elim (p x) as (λ b. p x ≡ b → insert (x ∷ xs) (position_or_len p (x ∷ xs)) t ≡ filter q (x ∷ xs) ++ t ∷ filter p (x ∷ xs)) [
      | true ↦ λ here. let all : All (λ u. p u ≡ true) xs = λ k d below. later k d below here in let none : All (λ u. q u ≡ false) xs = λ k d below. other _
          ∙ not_from_true _ (all k d below) in let head : q x ≡ false = other x
          ∙ not_from_true (p x) here in rw (here, head, filter_all p xs all, filter_none q xs none) refl
      | false ↦ λ here. let head : q x ≡ true = other x
          ∙ not_from_false (p x) here in rw (here, head) (insert_next x t xs (position_or_len p xs) ∙ ap (λ ys. x ∷ ys) rest)
    ] refl

pub inserted_last : (by : ℕ → ℕ) (t : ℕ) (xs : List ℕ) → AllPairs (λ u v. by u ≤ by v) xs
    → insert xs (position_or_len (λ u. nat_lt (by t) (by u)) xs) t ≡ last_in by t xs
inserted_last by t xs sorted =
    put_at_first (λ u. nat_lt (by t) (by u)) (λ u. nat_le (by u) (by t)) t xs (λ u. grind (arith, nat_tests))
    (λ i j d earlier below above. let climbs = sorted i j d earlier below in let over = ltb-true _ _ above in lt-ltb _ _ (omega arith))

pub inserted_first : (by : ℕ → ℕ) (t : ℕ) (xs : List ℕ) → AllPairs (λ u v. by u ≤ by v) xs
    → insert xs (position_or_len (λ u. nat_le (by t) (by u)) xs) t ≡ first_in by t xs
inserted_first by t xs sorted =
    put_at_first (λ u. nat_le (by t) (by u)) (λ u. nat_lt (by u) (by t)) t xs (λ u. grind (arith, nat_tests))
    (λ i j d earlier below above. let climbs = sorted i j d earlier below in let over = leb-true _ _ above in le-leb _ _ (omega arith))

pub position_or_end : (p : ℕ → Bool) (xs : List ℕ) → unwrap_or (position p xs) (length xs) ≡ position_or_len p xs
position_or_end p xs =
    cond_both (nat_lt (position_or_len p xs) (length xs)) (Some (position_or_len p xs)) None (λ o. unwrap_or o (length xs) ≡ position_or_len p xs)
    (λ found. refl) (λ none. let past = ltb-false _ _ none in let within = prefix_len-le-length (λ u. not (p u)) xs in omega arith)

-- how many

length-without : (t : ℕ) (xs : List ℕ) → AllPairs (λ u v. v ≢ u) xs → length xs ≤ length (without t xs) + 1
length-without t [] distinct = omega arith
length-without t (x ∷ xs) distinct =
    let rest = length-without t xs (AllPairs-tail (λ u v. v ≢ u) x xs distinct) in
    let others = AllPairs-head (λ u v. v ≢ u) x xs distinct in
    elim (x == t) as (λ b. (x == t) ≡ b → length (x ∷ xs) ≤ length (without t (x ∷ xs)) + 1) [
      | true ↦ λ same. let x_is_t : x ≡ t = eqb-true x t same in let none : All (λ u. u ≢ t) xs = subst (λ v. All (λ u. u ≢ v) xs) x_is_t others in rw
          (same, without_none t xs none) (omega arith)
      | false ↦ λ other. rw other (omega (arith, rest))
    ] refl

-- distinct numbers below n are at most n
pub pigeonhole : (n : ℕ) (xs : List ℕ) → All (λ t. t < n) xs → AllPairs (λ u v. v ≢ u) xs → length xs ≤ n
pigeonhole zero [] below distinct = omega arith
pigeonhole zero (x ∷ xs) below distinct = let low : x < 0 = All-head (λ t. t < 0) x xs below in absurd (omega arith)
pigeonhole (suc n) xs below distinct =
    let kept : All (λ t. t < suc n) (without n xs) = All-filter (λ u. not (u == n)) (λ t. t < suc n) xs below in
    let other = without_is_not n xs in
    let fewer = pigeonhole n (without n xs) (λ k d within. let low = kept k d within in let apart = other k d within in omega arith)
    (AllPairs-filter (λ u v. v ≢ u) (λ u. not (u == n)) xs distinct) in
    let more = length-without n xs distinct in
    omega arith

-- there is room for one more
pub room : (t : ℕ) (xs : List ℕ) → t < 256 → All (λ u. u < 256) xs → AllPairs (λ u v. v ≢ u) xs → All (λ u. u ≢ t) xs → length xs < 256
room t xs low below distinct other =
    let full = pigeonhole 256 (t ∷ xs) (All-cons (λ u. u < 256) t xs low below) (AllPairs-cons (λ u v. v ≢ u) t xs other distinct) in omega arith

-- one put in

pub All-last_in : (P : ℕ → Type 0) (by : ℕ → ℕ) (t : ℕ) (xs : List ℕ) → P t → All P xs → All P (last_in by t xs)
All-last_in P by t xs new all =
    All-append P (filter (λ u. nat_le (by u) (by t)) xs) (t ∷ filter (λ u. nat_lt (by t) (by u)) xs) (All-filter (λ u. nat_le (by u) (by t)) P xs all)
    (All-cons P t (filter (λ u. nat_lt (by t) (by u)) xs) new (All-filter (λ u. nat_lt (by t) (by u)) P xs all))

pub All-first_in : (P : ℕ → Type 0) (by : ℕ → ℕ) (t : ℕ) (xs : List ℕ) → P t → All P xs → All P (first_in by t xs)
All-first_in P by t xs new all =
    All-append P (filter (λ u. nat_lt (by u) (by t)) xs) (t ∷ filter (λ u. nat_le (by t) (by u)) xs) (All-filter (λ u. nat_lt (by u) (by t)) P xs all)
    (All-cons P t (filter (λ u. nat_le (by t) (by u)) xs) new (All-filter (λ u. nat_le (by t) (by u)) P xs all))

-- R holds in pairs between two parts and one in the midst
between : (R : ℕ → ℕ → Type 0) (t : ℕ) (xs ys : List ℕ) → AllPairs R xs → AllPairs R ys → All (λ x. R x t) xs → All (R t) ys
    → ((x y : ℕ) → R x t → R t y → R x y) → AllPairs R (xs ++ t ∷ ys)
between R t xs ys front back below above through =
    AllPairs-append R xs (t ∷ ys) front (AllPairs-cons R t ys above back)
    (λ k d within. All-cons (R _) t ys (below k d within) (λ j e inside. through _ _ (below k d within) (above j e inside)))

low : (by : ℕ → ℕ) (t : ℕ) (xs : List ℕ) → All (λ u. by u ≤ by t) (filter (λ u. nat_le (by u) (by t)) xs)
low by t xs = λ k d within. leb-true _ _ (filter_passes (λ u. nat_le (by u) (by t)) xs k d within)

high : (by : ℕ → ℕ) (t : ℕ) (xs : List ℕ) → All (λ u. by t < by u) (filter (λ u. nat_lt (by t) (by u)) xs)
high by t xs = λ k d within. ltb-true _ _ (filter_passes (λ u. nat_lt (by t) (by u)) xs k d within)

lower : (by : ℕ → ℕ) (t : ℕ) (xs : List ℕ) → All (λ u. by u < by t) (filter (λ u. nat_lt (by u) (by t)) xs)
lower by t xs = λ k d within. ltb-true _ _ (filter_passes (λ u. nat_lt (by u) (by t)) xs k d within)

higher : (by : ℕ → ℕ) (t : ℕ) (xs : List ℕ) → All (λ u. by t ≤ by u) (filter (λ u. nat_le (by t) (by u)) xs)
higher by t xs = λ k d within. leb-true _ _ (filter_passes (λ u. nat_le (by t) (by u)) xs k d within)

-- the order stays
pub sorted-last_in : (by : ℕ → ℕ) (t : ℕ) (xs : List ℕ) → AllPairs (λ u v. by u ≤ by v) xs → AllPairs (λ u v. by u ≤ by v) (last_in by t xs)
sorted-last_in by t xs sorted =
    between (λ u v. by u ≤ by v) t (filter (λ u. nat_le (by u) (by t)) xs) (filter (λ u. nat_lt (by t) (by u)) xs)
    (AllPairs-filter (λ u v. by u ≤ by v) (λ u. nat_le (by u) (by t)) xs sorted)
    (AllPairs-filter (λ u v. by u ≤ by v) (λ u. nat_lt (by t) (by u)) xs sorted) (low by t xs)
    (λ k d within. let above = high by t xs k d within in omega arith) (λ x y below above. omega arith)

pub sorted-first_in : (by : ℕ → ℕ) (t : ℕ) (xs : List ℕ) → AllPairs (λ u v. by u ≤ by v) xs → AllPairs (λ u v. by u ≤ by v) (first_in by t xs)
sorted-first_in by t xs sorted =
    between (λ u v. by u ≤ by v) t (filter (λ u. nat_lt (by u) (by t)) xs) (filter (λ u. nat_le (by t) (by u)) xs)
    (AllPairs-filter (λ u v. by u ≤ by v) (λ u. nat_lt (by u) (by t)) xs sorted)
    (AllPairs-filter (λ u v. by u ≤ by v) (λ u. nat_le (by t) (by u)) xs sorted) (λ k d within. let below = lower by t xs k d within in omega arith)
    (higher by t xs) (λ x y below above. omega arith)

-- a new priority joins those that climb
pub climbing-first_in : (by : ℕ → ℕ) (t : ℕ) (xs : List ℕ) → AllPairs (λ u v. by u < by v) xs → All (λ u. by u ≢ by t) xs
    → AllPairs (λ u v. by u < by v) (first_in by t xs)
climbing-first_in by t xs climbs new =
    between (λ u v. by u < by v) t (filter (λ u. nat_lt (by u) (by t)) xs) (filter (λ u. nat_le (by t) (by u)) xs)
    (AllPairs-filter (λ u v. by u < by v) (λ u. nat_lt (by u) (by t)) xs climbs)
    (AllPairs-filter (λ u v. by u < by v) (λ u. nat_le (by t) (by u)) xs climbs) (lower by t xs)
    (λ k d within. let from = higher by t xs k d within in let apart = All-filter (λ u. nat_le (by t) (by u))
    (λ u. by u ≢ by t) xs new k d within in omega arith) (λ x y below above. omega arith)

-- distinct threads stay so with one more
apart : (t : ℕ) (p q : ℕ → Bool) (xs : List ℕ) → AllPairs (λ u v. v ≢ u) xs → All (λ u. u ≢ t) xs → ((u v : ℕ) → p u ≡ true → q v ≡ true → v ≢ u)
    → AllPairs (λ u v. v ≢ u) (filter p xs ++ t ∷ filter q xs)
apart t p q xs distinct new parted =
    AllPairs-append (λ u v. v ≢ u) (filter p xs) (t ∷ filter q xs) (AllPairs-filter (λ u v. v ≢ u) p xs distinct)
    (AllPairs-cons (λ u v. v ≢ u) t (filter q xs) (All-filter q (λ u. u ≢ t) xs new) (AllPairs-filter (λ u v. v ≢ u) q xs distinct))
    (λ k d within. All-cons (λ v. v ≢ slice_index_or (filter p xs) k d) t (filter q xs) (λ same. All-filter p (λ u. u ≢ t) xs new k d within (sym same))
    (λ j e inside. parted _ _ (filter_passes p xs k d within) (filter_passes q xs j e inside)))

pub distinct-last_in : (by : ℕ → ℕ) (t : ℕ) (xs : List ℕ) → AllPairs (λ u v. v ≢ u) xs → All (λ u. u ≢ t) xs → AllPairs (λ u v. v ≢ u) (last_in by t xs)
distinct-last_in by t xs distinct new =
    apart t (λ u. nat_le (by u) (by t)) (λ u. nat_lt (by t) (by u)) xs distinct new
    (λ u v below above same. let under = leb-true (by u) (by t) below in let over = ltb-true (by t) (by v) above in let equal = ap by same in omega arith)

pub distinct-first_in : (by : ℕ → ℕ) (t : ℕ) (xs : List ℕ) → AllPairs (λ u v. v ≢ u) xs → All (λ u. u ≢ t) xs → AllPairs (λ u v. v ≢ u) (first_in by t xs)
distinct-first_in by t xs distinct new =
    apart t (λ u. nat_lt (by u) (by t)) (λ u. nat_le (by t) (by u)) xs distinct new
    (λ u v below above same. let under = ltb-true (by u) (by t) below in let over = leb-true (by t) (by v) above in let equal = ap by same in omega arith)

-- who is first of a priority once one is put in

-- the first of a priority stays so after others of it
pub find-last_in : (by : ℕ → ℕ) (t p k : ℕ) (xs : List ℕ) → find (λ u. by u == p) xs ≡ Some k → find (λ u. by u == p) (last_in by t xs) ≡ Some k
find-last_in by t p k xs found =
    let low_part = filter (λ u. nat_le (by u) (by t)) xs in
    let high_part = filter (λ u. nat_lt (by t) (by u)) xs in
    let at_p = eqb-true (by k) p (find_passes (λ u. by u == p) xs k found) in
    ⊎_elim (λ above. find_right (λ u. by u == p) low_part (t ∷ high_part)
    (find_none (λ u. by u == p) low_part (λ j d within. ne_eqb _ _ (λ same. let under = low by t xs j d within in absurd (omega arith))))
    ∙ rw (ne_eqb (by t) p (λ same. absurd (omega arith)))
    (find-filter (λ u. by u == p) (λ u. nat_lt (by t) (by u)) xs k found (lt-ltb (by t) (by k) (omega arith))))
    (λ upto. find_left (λ u. by u == p) low_part (t ∷ high_part) k
    (find-filter (λ u. by u == p) (λ u. nat_le (by u) (by t)) xs k found (le-leb (by k) (by t) (omega arith))))
    (cases_lt (by t) p)

-- and before others of another priority
pub find-first_in : (by : ℕ → ℕ) (t p k : ℕ) (xs : List ℕ) → by t ≢ p → find (λ u. by u == p) xs ≡ Some k → find (λ u. by u == p) (first_in by t xs) ≡ Some k
find-first_in by t p k xs other found =
    let low_part = filter (λ u. nat_lt (by u) (by t)) xs in
    let high_part = filter (λ u. nat_le (by t) (by u)) xs in
    let at_p = eqb-true (by k) p (find_passes (λ u. by u == p) xs k found) in
    ⊎_elim (λ above. find_right (λ u. by u == p) low_part (t ∷ high_part)
    (find_none (λ u. by u == p) low_part (λ j d within. ne_eqb _ _ (λ same. let under = lower by t xs j d within in absurd (omega arith))))
    ∙ rw (ne_eqb (by t) p other) (find-filter (λ u. by u == p) (λ u. nat_le (by t) (by u)) xs k found (le-leb (by t) (by k) (omega arith))))
    (λ upto. find_left (λ u. by u == p) low_part (t ∷ high_part) k
    (find-filter (λ u. by u == p) (λ u. nat_lt (by u) (by t)) xs k found (lt-ltb (by k) (by t) (omega arith))))
    (cases_lt (by t) p)

-- one that is put in first of its priority is it, and so is one put in last where there was none
pub first_in_is_first : (by : ℕ → ℕ) (t : ℕ) (xs : List ℕ) → find (λ u. by u == by t) (first_in by t xs) ≡ Some t
first_in_is_first by t xs =
    let low_part = filter (λ u. nat_lt (by u) (by t)) xs in
    find_right (λ u. by u == by t) low_part (t ∷ filter (λ u. nat_le (by t) (by u)) xs)
    (find_none (λ u. by u == by t) low_part (λ j d within. ne_eqb _ _ (λ same. let under = lower by t xs j d within in absurd (omega arith))))
    ∙ rw (eq-eqb (by t) (by t) refl) refl

pub last_in_is_first : (by : ℕ → ℕ) (t : ℕ) (xs : List ℕ) → All (λ u. by u ≢ by t) xs → find (λ u. by u == by t) (last_in by t xs) ≡ Some t
last_in_is_first by t xs none =
    let low_part = filter (λ u. nat_le (by u) (by t)) xs in
    find_right (λ u. by u == by t) low_part (t ∷ filter (λ u. nat_lt (by t) (by u)) xs)
    (find_none (λ u. by u == by t) low_part (λ j d within. ne_eqb _ _ (All-filter (λ u. nat_le (by u) (by t)) (λ u. by u ≢ by t) xs none j d within)))
    ∙ rw (eq-eqb (by t) (by t) refl) refl

-- one more stands in the list
pub length-last_in : (by : ℕ → ℕ) (t : ℕ) (xs : List ℕ) → length (last_in by t xs) ≡ length xs + 1
length-last_in by t xs =
    let parts = length-filter_both (λ u. nat_le (by u) (by t)) (λ u. nat_lt (by t) (by u)) (λ u. grind (arith, nat_tests)) xs in
    let joined = length-append (filter (λ u. nat_le (by u) (by t)) xs) (t ∷ filter (λ u. nat_lt (by t) (by u)) xs) in
    omega arith

pub length-all_last : (by : ℕ → ℕ) (xs ts : List ℕ) → length (fold (λ us t. last_in by t us) xs ts) ≡ length xs + length ts
length-all_last by xs [] = omega arith
length-all_last by xs (t ∷ ts) = let one = length-last_in by t xs in let rest = length-all_last by (last_in by t xs) ts in omega arith

-- one more of those that are put in one after another
pub all_last_more : (by : ℕ → ℕ) (xs ts : List ℕ) (i t : ℕ) → i < length ts → t ≡ slice_index_or ts i t
    → fold (λ us u. last_in by u us) xs (take (i + 1) ts) ≡ last_in by t (fold (λ us u. last_in by u us) xs (take i ts))
all_last_more by xs ts i t within here =
    let put = λ (us : List ℕ) (u : ℕ). last_in by u us in
    ap (fold put xs) (take_more ts i t within)
    ∙ (fold_push put xs (take i ts) (slice_index_or ts i t) ∙ ap (λ u. last_in by u (fold put xs (take i ts))) (sym here))
