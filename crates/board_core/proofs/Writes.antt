-- A write to bytes: a range that it doesn't meet stays, and what was written stands.
use Rattle.std.proofs.Common.{◌≡◌, ◌⊎◌, ℕ, ◌+◌, ◌-◌, ◌<◌, ◌≤◌, List, length, slice_range, ext_get_or, sym, ◌∙◌, inl, inr, ⊎_elim, arith}
use Rattle.std.proofs.lemmas.List.Edits.{get_or-between, length-between}
use Rattle.flat_ram.specs.Laws.{IsOutside, LengthStays, OthersStay, RangeIsWritten}
use Rattle.flat_ram.specs.Ram.{over}

pub range_stays : LengthStays → OthersStay → (bytes others : List ℕ) (at from n : ℕ) → from + n ≤ length bytes → (from + n ≤ at) ⊎ (at + length others ≤ from)
    → slice_range (over bytes at others) from (from + n) ≡ slice_range bytes from (from + n)
range_stays lengths stays bytes others at from n inside apart =
    let now = over bytes at others in
    let same = lengths bytes others at in
    let count : length (slice_range now from (from + n)) ≡ from + n - from = length-between now from (from + n) (omega arith) in
    let before : length (slice_range bytes from (from + n)) ≡ from + n - from = length-between bytes from (from + n) inside in
    ext_get_or 0 (slice_range now from (from + n)) (slice_range bytes from (from + n)) (omega arith) (λ k below.
    let within : from + k < from + n = omega arith in
    let outside : IsOutside at (length others) (from + k) = ⊎_elim (λ low. inl (omega arith)) (λ high. inr (omega arith)) apart in
    get_or-between now from (from + n) k 0 within ∙ (stays bytes others at (from + k) outside ∙ sym (get_or-between bytes from (from + n) k 0 within)))

pub written_stands : LengthStays → RangeIsWritten → (bytes others : List ℕ) (at : ℕ) → at + length others ≤ length bytes
    → slice_range (over bytes at others) at (at + length others) ≡ others
written_stands lengths written bytes others at inside =
    let now = over bytes at others in
    let n = length others in
    let same = lengths bytes others at in
    let count : length (slice_range now at (at + n)) ≡ at + n - at = length-between now at (at + n) (omega arith) in
    ext_get_or 0 (slice_range now at (at + n)) others (omega arith) (λ k below.
    let within : at + k < at + n = omega arith in
    let inner : k < length others = omega arith in
    get_or-between now at (at + n) k 0 within ∙ written bytes others at k inside inner)
