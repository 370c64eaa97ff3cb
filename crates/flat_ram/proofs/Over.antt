-- What a write of one byte leaves.
use Rattle.std.proofs.Common.{◌≡◌, ℕ, ◌+◌, ◌-◌, ◌<◌, ◌≤◌, List, [], ◌∷◌, ◌++◌, length, take, drop, slice_set, slice_index, refl, sym, ap, ◌∙◌, ⊎_elim, inl, inr}
use Rattle.std.proofs.Common.{add-one, arith}
use Rattle.std.proofs.lemmas.List.{take_all, set_split, length-set, length-take, length-take-le, get_or-take, get_or_append_left, get_or-append_right}
use Rattle.std.proofs.lemmas.List.{get_or-drop, get_or_past, places}
use Rattle.std.proofs.lemmas.Bool.{cases_lt}
use Rattle.machine_words.specs.Number.{low_bytes}
use Rattle.flat_ram.specs.Laws.{OthersStay, RangeIsWritten, NumbersStay, ReadsBack}
use Rattle.flat_ram.specs.Ram.{over, stored}
use Rattle.flat_ram.proofs.Numbers.{same_number, length-low_bytes, number_of_low_bytes}

-- a byte written in its place
pub slice_set_is_over : (bytes : List ℕ) (at b : ℕ) → at < length bytes → slice_set bytes at b ≡ over bytes at (b ∷ [])
slice_set_is_over bytes at b inside =
    let split = set_split bytes at b inside in
    let whole = take_all (length bytes) (slice_set bytes at b) (omega (arith, length-set bytes at b)) in
    rw add-one (rw (← split) (sym whole))

pub length-over : (bytes others : List ℕ) (at : ℕ) → length (over bytes at others) ≡ length bytes
length-over bytes others at = grind (arith, places)

-- the byte at a place of the written range, and at any other place
inside : (bytes others : List ℕ) (at k : ℕ) → k < length bytes
    → slice_index (over bytes at others) k ≡ slice_index (take at bytes ++ (others ++ drop (at + length others) bytes)) k
inside bytes others at k within = get_or-take (length bytes) (take at bytes ++ (others ++ drop (at + length others) bytes)) k 0 within

past : (bytes others : List ℕ) (at k : ℕ) → length bytes ≤ k → slice_index (over bytes at others) k ≡ slice_index bytes k
past bytes others at k beyond =
    let long = length-over bytes others at in
    get_or_past (over bytes at others) k 0 (omega arith) ∙ sym (get_or_past bytes k 0 beyond)

below : (bytes others : List ℕ) (at k : ℕ) → k < at → k < length bytes → slice_index (over bytes at others) k ≡ slice_index bytes k
below bytes others at k low within =
    let front = length-take at bytes in
    inside bytes others at k within
    ∙ get_or_append_left (take at bytes) (others ++ drop (at + length others) bytes) 0 k (omega arith)
    ∙ get_or-take at bytes k 0 low

above : (bytes others : List ℕ) (at k : ℕ) → at + length others ≤ k → k < length bytes → slice_index (over bytes at others) k ≡ slice_index bytes k
above bytes others at k high within =
    let front = length-take-le at bytes (omega arith) in
    let back : at + length others + (k - at - length others) ≡ k = omega arith in
    inside bytes others at k within
    ∙ get_or-append_right (take at bytes) (others ++ drop (at + length others) bytes) at k 0 front (omega arith)
    ∙ get_or-append_right others (drop (at + length others) bytes) (length others) (k - at) 0 refl (omega arith)
    ∙ get_or-drop (at + length others) bytes (k - at - length others) 0
    ∙ ap (λ (i : ℕ). slice_index bytes i) back

pub others_stay : OthersStay
others_stay bytes others at k outside =
    ⊎_elim (λ within. ⊎_elim (λ low. below bytes others at k low within) (λ high. above bytes others at k high within) outside)
    (λ beyond. past bytes others at k beyond) (cases_lt k (length bytes))

pub numbers_stay : NumbersStay
numbers_stay bytes others at n from apart =
    same_number (slice_index (over bytes at others)) (slice_index bytes) from from n
    (λ k in_number. others_stay bytes others at (from + k) (⊎_elim (λ before. inl (omega arith)) (λ behind. inr (omega arith)) apart))

pub range_is_written : RangeIsWritten
range_is_written bytes others at k fits below_end =
    let front = length-take-le at bytes (omega arith) in
    let place : at + k - at ≡ k = omega arith in
    inside bytes others at (at + k) (omega arith)
    ∙ get_or-append_right (take at bytes) (others ++ drop (at + length others) bytes) at (at + k) 0 front (omega arith)
    ∙ ap (λ (i : ℕ). slice_index (others ++ drop (at + length others) bytes) i) place
    ∙ get_or_append_left others (drop (at + length others) bytes) 0 k below_end

pub reads_back : ReadsBack
reads_back bytes at n v fits =
    let long = length-low_bytes n v in
    let same = λ (k : ℕ) (below_end : k < n). let here : 0 + k ≡ k = omega arith in
    range_is_written bytes (low_bytes n v) at k (omega arith) (omega arith) ∙ ap (slice_index (low_bytes n v)) (sym here) in
    same_number (slice_index (stored bytes at n v)) (slice_index (low_bytes n v)) at 0 n same ∙ number_of_low_bytes n v
