-- Lists of which each element has its place, one element more or one changed.
use Rattle.std.proofs.Common.{◌≡◌, ℕ, zero, suc, ◌<◌, List, [], ◌∷◌, ◌++◌, length, slice_index_or, slice_set, refl, ap, arith}
use Rattle.std.proofs.lemmas.List.{length-append}

-- of one element more, each has its place
pub one_more : {X : Type 0} (P : ℕ → X → Type 0) (xs : List X) (y : X) → ((k : ℕ) (any : X) → k < length xs → P k (slice_index_or xs k any)) → P (length xs) y
    → (k : ℕ) (any : X) → k < length (xs ++ y ∷ []) → P k (slice_index_or (xs ++ y ∷ []) k any)
one_more P [] y f here zero any lt = here
one_more P [] y f here (suc k) any lt = absurd (omega arith)
one_more P (x ∷ xs) y f here zero any lt = f zero any (omega arith)
one_more P (x ∷ xs) y f here (suc k) any lt = one_more (λ k. P (suc k)) xs y (λ k any h. f (suc k) any (omega arith)) here k any (omega arith)

-- one element changes and keeps its place
pub one_set : {X : Type 0} (P : ℕ → X → Type 0) (xs : List X) (i : ℕ) (y : X) → ((k : ℕ) (any : X) → k < length xs → P k (slice_index_or xs k any)) → P i y
    → (k : ℕ) (any : X) → k < length (slice_set xs i y) → P k (slice_index_or (slice_set xs i y) k any)
one_set P [] i y f here k any lt = absurd (omega arith)
one_set P (x ∷ xs) zero y f here zero any lt = here
one_set P (x ∷ xs) zero y f here (suc k) any lt = f (suc k) any lt
one_set P (x ∷ xs) (suc i) y f here zero any lt = f zero any (omega arith)
one_set P (x ∷ xs) (suc i) y f here (suc k) any lt = one_set (λ k. P (suc k)) xs i y (λ k any h. f (suc k) any (omega arith)) here k any (omega arith)

-- where there is an element, it is the same whatever would stand past the end
pub same_there : {X : Type 0} (xs : List X) (k : ℕ) (x y : X) → k < length xs → slice_index_or xs k x ≡ slice_index_or xs k y
same_there [] k x y lt = absurd (omega arith)
same_there (z ∷ xs) zero x y lt = refl
same_there (z ∷ xs) (suc k) x y lt = same_there xs k x y (omega arith)

-- the element after some others stands at their number
pub index_stands : {X : Type 0} (before : List X) (x any : X) (rest : List X) → slice_index_or (before ++ x ∷ rest) (length before) any ≡ x
index_stands [] x any rest = refl
index_stands (y ∷ ys) x any rest = index_stands ys x any rest

-- its number is below the length
pub inside : {X : Type 0} (xs before rest : List X) (x : X) → before ++ x ∷ rest ≡ xs → length before < length xs
inside xs before rest x e = omega (arith, ap length e, length-append before (x ∷ rest))
