-- A range that may be used lies in RAM.
use Rattle.std.proofs.Common.{◌≡◌, ℕ, ◌+◌, ◌≤◌, ◌==◌, ◌&&◌, true, List, [], ◌∷◌, nat_le, All, ⊎_elim, arith}
use Rattle.std.proofs.lemmas.Bool.{and_from, and_parts, eqb-true, false≢true, le-leb, leb-true, or_cases, or_left, or_right}
use Rattle.std.proofs.lemmas.List.Elements.{All-head, All-tail}
use Rattle.std.specs.List.{list_any}
use Rattle.region_guard.specs.Laws.{UsedIsInRam, PartsMayBeUsed}
use Rattle.region_guard.specs.Memory.{IsInRam, IsRangeInRam}
use Rattle.region_guard.specs.Region.{covers, gives, is_for, lets}
use Rattle.region_guard.specs.declared.region.Access.{Access}
use Rattle.region_guard.specs.declared.region.Region.{Region}

in_region : (bytes : List ℕ) (r : Region) (m : ℕ) (k : Access) (a n : ℕ) → IsInRam bytes r → lets m k a n r ≡ true → IsRangeInRam bytes a n
in_region bytes r m k a n inside used =
    let by_rights = and_parts (covers r a n && gives r.rights k) (is_for m r) used in
    let by_range = and_parts (covers r a n) (gives r.rights k) by_rights.0 in
    let ends = and_parts (nat_le r.base a) (nat_le (a + n) (r.base + r.size)) by_range.0 in
    let low = leb-true r.base a ends.0 in
    let high = leb-true (a + n) (r.base + r.size) ends.1 in
    let base = inside.range.from_base in
    let end = inside.range.to_end in
    record { from_base = omega arith; to_end = omega arith }

in_some_region : (bytes : List ℕ) (rs : List Region) (m : ℕ) (k : Access) (a n : ℕ) → All (IsInRam bytes) rs → list_any (lets m k a n) rs ≡ true
    → IsRangeInRam bytes a n
in_some_region bytes [] m k a n all used = absurd (false≢true used)
in_some_region bytes (r ∷ rs) m k a n all used =
    ⊎_elim (λ here. in_region bytes r m k a n (All-head (IsInRam bytes) r rs all) here)
    (λ later. in_some_region bytes rs m k a n (All-tail (IsInRam bytes) r rs all) later) (or_cases (lets m k a n r) (list_any (lets m k a n) rs) used)

pub used_is_in_ram : UsedIsInRam
used_is_in_ram g m k a n sound some used =
    ⊎_elim (λ none. let zero_n = eqb-true n 0 none in absurd (omega arith)) (λ reached. in_some_region g.bytes g.regions m k a n sound.in_ram reached)
    (or_cases (n == 0) (list_any (lets m k a n) g.regions) used)

part_in_region : (r : Region) (m : ℕ) (k : Access) (a n b part : ℕ) → lets m k a n r ≡ true → a ≤ b → b + part ≤ a + n → lets m k b part r ≡ true
part_in_region r m k a n b part used low high =
    let by_rights = and_parts (covers r a n && gives r.rights k) (is_for m r) used in
    let by_range = and_parts (covers r a n) (gives r.rights k) by_rights.0 in
    let ends = and_parts (nat_le r.base a) (nat_le (a + n) (r.base + r.size)) by_range.0 in
    let from = leb-true r.base a ends.0 in
    let to = leb-true (a + n) (r.base + r.size) ends.1 in
    let covered = and_from (nat_le r.base b) (nat_le (b + part) (r.base + r.size)) (le-leb r.base b (omega arith))
    (le-leb (b + part) (r.base + r.size) (omega arith)) in
    and_from (covers r b part && gives r.rights k) (is_for m r) (and_from (covers r b part) (gives r.rights k) covered by_range.1) by_rights.1

part_in_some_region : (rs : List Region) (m : ℕ) (k : Access) (a n b part : ℕ) → list_any (lets m k a n) rs ≡ true → a ≤ b → b + part ≤ a + n
    → list_any (lets m k b part) rs ≡ true
part_in_some_region [] m k a n b part used low high = used
part_in_some_region (r ∷ rs) m k a n b part used low high =
    ⊎_elim (λ here. or_left (lets m k b part r) (list_any (lets m k b part) rs) (part_in_region r m k a n b part here low high))
    (λ later. or_right (lets m k b part r) (list_any (lets m k b part) rs) (part_in_some_region rs m k a n b part later low high))
    (or_cases (lets m k a n r) (list_any (lets m k a n) rs) used)

pub parts_may_be_used : PartsMayBeUsed
parts_may_be_used g m k a n b part some used low high =
    ⊎_elim (λ none. let zero_n = eqb-true n 0 none in absurd (omega arith))
    (λ reached. or_right (part == 0) (list_any (lets m k b part) g.regions) (part_in_some_region g.regions m k a n b part reached low high))
    (or_cases (n == 0) (list_any (lets m k a n) g.regions) used)
