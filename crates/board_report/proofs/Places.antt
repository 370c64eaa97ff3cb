-- Where the lines of rows stand.
use Rattle.std.proofs.Common.{◌≡◌, ℕ, ◌+◌, ◌*◌, ◌<◌, ◌≤◌, zero, suc, List, [], ◌∷◌, ◌++◌, Option, Some, length, map, get_or, subst, refl, length-append, ◌-◌}
use Rattle.std.proofs.Common.{arith}
use Rattle.std.proofs.lemmas.List.{length-map}
use Rattle.std.proofs.lemmas.Option.{slice_get-get_or, slice_get-map}
use Rattle.std.proofs.lemmas.List.Elements.{All-get_or}
use Rattle.std.specs.List.{flat_map, slice_get}
use Rattle.board_values.specs.declared.report.ThreadRow.{ThreadRow}
use Rattle.board_values.specs.declared.report.Report.{Report}
use Rattle.board_report.specs.Report.{report_lines, module_lines, thread_lines, thread_line, regs_line}

-- a row's line stands where the row does
pub mapped_at : {A B : Type 0} (f : A → B) (xs : List A) (i : ℕ) (d : A) → i < length xs → slice_get (map f xs) i ≡ Some (f (get_or xs i d))
mapped_at f xs i d h = rw (slice_get-map, slice_get-get_or xs i d h) refl

pub ruleset places = (mapped_at, All-get_or)

-- a thread's line, then its registers'
pub thread_at : (ts : List ThreadRow) (k : ℕ) (d : ThreadRow) → k < length ts
    → slice_get (flat_map thread_lines ts) (2 * k) ≡ Some (thread_line (get_or ts k d))
thread_at [] k d h = absurd (omega arith)
thread_at (t ∷ ts) zero d h = refl
thread_at (t ∷ ts) (suc k) d h =
    let e : suc (suc (2 * k)) ≡ 2 * suc k = omega arith in
    subst (λ i. slice_get (flat_map thread_lines (t ∷ ts)) i ≡ Some (thread_line (get_or ts k d))) e (thread_at ts k d (omega arith))

pub regs_at : (ts : List ThreadRow) (k : ℕ) (d : ThreadRow) → k < length ts
    → slice_get (flat_map thread_lines ts) (2 * k + 1) ≡ Some (regs_line (get_or ts k d).regs)
regs_at [] k d h = absurd (omega arith)
regs_at (t ∷ ts) zero d h = refl
regs_at (t ∷ ts) (suc k) d h =
    let e : suc (suc (2 * k + 1)) ≡ 2 * suc k + 1 = omega arith in
    subst (λ i. slice_get (flat_map thread_lines (t ∷ ts)) i ≡ Some (regs_line (get_or ts k d).regs)) e (regs_at ts k d (omega arith))

pub thread_length : (ts : List ThreadRow) → length (flat_map thread_lines ts) ≡ 2 * length ts
thread_length [] = refl
thread_length (t ∷ ts) = omega (arith, thread_length ts)

pub ruleset thread_places = (thread_at, regs_at, All-get_or, thread_length)

-- a place in the first of two lists
pub in_first : {A : Type 0} (xs ys : List A) (i : ℕ) (o : Option A) → i < length xs → slice_get xs i ≡ o → slice_get (xs ++ ys) i ≡ o
in_first [] ys i o h p = absurd (omega arith)
in_first (x ∷ xs) ys zero o h p = p
in_first (x ∷ xs) ys (suc i) o h p = in_first xs ys i o (omega arith) p

-- a place in the second, after the n elements of the first
pub in_second : {A : Type 0} (xs ys : List A) (n i : ℕ) (o : Option A) → n ≡ length xs → n ≤ i → slice_get ys (i - n) ≡ o → slice_get (xs ++ ys) i ≡ o
in_second [] ys n i o e h p = let z : i - n ≡ i = omega arith in subst (λ k. slice_get ys k ≡ o) z p
in_second (x ∷ xs) ys n zero o e h p = absurd (omega arith)
in_second (x ∷ xs) ys zero (suc i) o e h p = absurd (omega arith)
in_second (x ∷ xs) ys (suc n) (suc i) o e h p =
    let z : suc i - suc n ≡ i - n = omega arith in
    in_second xs ys n i o (omega arith) (omega arith) (subst (λ k. slice_get ys k ≡ o) z p)

-- a row has one line
pub row_length : {A B : Type 0} (f : A → B) (xs : List A) (n : ℕ) → n ≡ length xs → n ≡ length (map f xs)
row_length f xs n e = omega (arith, length-map xs f)

pub ruleset sections = (in_first, in_second, row_length)

pub report_length : (r : Report)
    → length (report_lines r) ≡ 6
    + (length (flat_map module_lines r.modules) + (length (flat_map thread_lines r.threads) + (length r.objects + (length r.devices + (length r.shows + 1)))))
unfolding report_lines
report_length r = simp (length-append, length-map) (omega arith)
