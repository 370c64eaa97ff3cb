-- Rows that are told of one number after another.
use Rattle.std.proofs.Common.{◌≡◌, ℕ, zero, suc, ◌+◌, ◌<◌, ◌≤◌, List, [], ◌∷◌, ◌++◌, length, All, Option, None, Some, IfSome, refl, arith, add-one}
use Rattle.std.proofs.Common.{length-append}
use Rattle.std.proofs.lemmas.List.Elements.{All-append, All-cons, All-nil}
use Rattle.std.specs.Option.{option_to_list}
use Rattle.board_core.specs.Report.{rows_below, rows_found}

module _ {R : Type 0} where
  pub rows_below_none : (row : ℕ → R) → rows_below 0 row ≡ []
  unfolding rows_below
  rows_below_none row = refl

  pub rows_below_more : (n : ℕ) (row : ℕ → R) → rows_below (n + 1) row ≡ rows_below n row ++ row n ∷ []
  unfolding rows_below
  rows_below_more n row = rw add-one

  pub rows_found_none : (row : ℕ → Option R) → rows_found 0 row ≡ []
  unfolding rows_found
  rows_found_none row = refl

  pub rows_found_more : (n : ℕ) (row : ℕ → Option R) → rows_found (n + 1) row ≡ rows_found n row ++ option_to_list (row n)
  unfolding rows_found
  rows_found_more n row = rw add-one

  pub all_put : (P : R → Type 0) (rows : List R) (row : Option R) → All P rows → IfSome row P → All P (rows ++ option_to_list row)
  all_put P rows None all one = All-append P rows [] all (All-nil P)
  all_put P rows (Some r) all one = All-append P rows (r ∷ []) all (All-cons P r [] one (All-nil P))

  -- how many rows
  pub length-rows_below : (n : ℕ) (row : ℕ → R) → length (rows_below n row) ≡ n
  unfolding rows_below
  length-rows_below zero row = refl
  length-rows_below (suc n) row = omega (arith, length-append (rows_below n row) (row n ∷ []), length-rows_below n row)

  short : (row : Option R) → length (option_to_list row) ≤ 1
  short None = omega arith
  short (Some r) = omega arith

  pub length-rows_found : (n : ℕ) (row : ℕ → Option R) → length (rows_found n row) ≤ n
  unfolding rows_found
  length-rows_found zero row = omega arith
  length-rows_found (suc n) row = omega (arith, length-append (rows_found n row) (option_to_list (row n)), length-rows_found n row, short (row n))

  -- what holds of each row
  pub All-rows_below : (P : R → Type 0) (n : ℕ) (row : ℕ → R) → ((i : ℕ) → i < n → P (row i)) → All P (rows_below n row)
  unfolding rows_below
  All-rows_below P zero row all = All-nil P
  All-rows_below P (suc n) row all =
      All-append P (rows_below n row) (row n ∷ []) (All-rows_below P n row (λ i low. all i (omega arith)))
      (All-cons P (row n) [] (all n (omega arith)) (All-nil P))

  pub All-rows_found : (P : R → Type 0) (n : ℕ) (row : ℕ → Option R) → ((i : ℕ) → IfSome (row i) P) → All P (rows_found n row)
  unfolding rows_found
  All-rows_found P zero row all = All-nil P
  All-rows_found P (suc n) row all = all_put P (rows_found n row) (row n) (All-rows_found P n row all) (all n)
