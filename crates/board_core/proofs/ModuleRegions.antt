-- The regions of modules by their numbers: that of module k's code is number 2 k, and that of its data the next.
use Rattle.std.proofs.Common.{◌≡◌, ◌⊎◌, ℕ, zero, suc, ◌+◌, ◌*◌, ◌/◌, ◌%◌, ◌^◌, ◌<◌, ◌≤◌, ◌==◌, ◌&&◌, Bool, false, true, List, [], ◌∷◌, length, get_or, nat_le}
use Rattle.std.proofs.Common.{nat_lt, All, AllPairs, refl, ap, sym, subst, ◌∙◌, inl, inr, ⊎_elim, arith}
use Rattle.std.proofs.lemmas.Bool.{cases_lt, and_cases, and_from, and_left, and_right, eq-eqb, le-leb, le-ltb, ltb-false, or_right}
use Rattle.std.proofs.lemmas.List.Folds.{list_any_at}
use Rattle.std.proofs.lemmas.Nat.{shl-shr}
use Rattle.std.specs.List.{list_any}
use Rattle.machine_words.specs.Bits.{bits}
use Rattle.module_loader.specs.Want.{want_of}
use Rattle.module_manager.specs.Modules.{loaded, module_at, with_state}
use Rattle.module_manager.specs.declared.modules.Module.{Module}
use Rattle.module_manager.specs.declared.modules.ModuleState.{ModuleState}
use Rattle.module_preamble.specs.Words.{words_of}
use Rattle.region_guard.specs.Memory.{Memory, may}
use Rattle.region_guard.specs.Region.{covers, gives, is_for, lets, meets}
use Rattle.region_guard.specs.declared.region.Access.TheVariants.{Store}
use Rattle.region_guard.specs.declared.region.Region.{Region}
use Rattle.board_core.specs.Boot.{code_region, data_region, regions_of}

abbrev pub twice : ℕ → ℕ
twice zero = zero
twice (suc k) = suc (suc (twice k))

pub twice_is : (k : ℕ) → twice k ≡ k + k
twice_is zero = refl
twice_is (suc k) = let rest = twice_is k in omega arith

pub length_regions : (i : ℕ) (ms : List Module) → length (regions_of i ms) ≡ twice (length ms)
length_regions i [] = refl
length_regions i (m ∷ ms) = ap (λ n. suc (suc n)) (length_regions (i + 1) ms)

code_at : (i j k : ℕ) (ms : List Module) (d : Region) (e : Module) → i + k ≡ j → k < length ms
    → get_or (regions_of i ms) (twice k) d ≡ code_region j (get_or ms k e)
code_at i j k [] d e same below = absurd (omega arith)
code_at i j zero (m ∷ ms) d e same below = let here : i ≡ j = omega arith in ap (λ n. code_region n m) here
code_at i j (suc k) (m ∷ ms) d e same below = code_at (i + 1) j k ms d e (omega arith) (omega arith)

data_at : (i j k : ℕ) (ms : List Module) (d : Region) (e : Module) → i + k ≡ j → k < length ms
    → get_or (regions_of i ms) (suc (twice k)) d ≡ data_region j (get_or ms k e)
data_at i j k [] d e same below = absurd (omega arith)
data_at i j zero (m ∷ ms) d e same below = let here : i ≡ j = omega arith in ap (λ n. data_region n m) here
data_at i j (suc k) (m ∷ ms) d e same below = data_at (i + 1) j k ms d e (omega arith) (omega arith)

code_below : (ms : List Module) (k : ℕ) → k < length ms → twice k < length (regions_of 0 ms)
code_below ms k below = let many = length_regions 0 ms in omega (arith, twice_is k, twice_is (length ms))

data_below : (ms : List Module) (k : ℕ) → k < length ms → suc (twice k) < length (regions_of 0 ms)
data_below ms k below = let many = length_regions 0 ms in omega (arith, twice_is k, twice_is (length ms))

-- what holds of all regions holds of each module's
pub each_code : (P : Region → Type 0) (ms : List Module) (k : ℕ) (e : Module) → All P (regions_of 0 ms) → k < length ms → P (code_region k (get_or ms k e))
each_code P ms k e all below =
    let d = code_region k (get_or ms k e) in
    subst P (code_at 0 k k ms d e (omega arith) below) (all (twice k) d (code_below ms k below))

pub each_data : (P : Region → Type 0) (ms : List Module) (k : ℕ) (e : Module) → All P (regions_of 0 ms) → k < length ms → P (data_region k (get_or ms k e))
each_data P ms k e all below =
    let d = data_region k (get_or ms k e) in
    subst P (data_at 0 k k ms d e (omega arith) below) (all (suc (twice k)) d (data_below ms k below))

-- two regions have no address in common
abbrev pub AreApart : Region → Region → Type 0
AreApart r s = (r.base + r.size ≤ s.base) ⊎ (s.base + s.size ≤ r.base)

pub apart_from : (r s : Region) → meets r s ≡ false → AreApart r s
apart_from r s unmet =
    ⊎_elim (λ low. inr (ltb-false r.base (s.base + s.size) low)) (λ high. inl (ltb-false s.base (r.base + r.size) high))
    (and_cases (nat_lt r.base (s.base + s.size)) (nat_lt s.base (r.base + r.size)) unmet)

pub unmet_from : (r s : Region) → AreApart r s → meets r s ≡ false
unmet_from r s apart =
    let x = nat_lt r.base (s.base + s.size) in
    let y = nat_lt s.base (r.base + r.size) in
    ⊎_elim (λ low. and_right x y (le-ltb s.base (r.base + r.size) low)) (λ high. and_left x y (le-ltb r.base (s.base + s.size) high)) apart

pub swapped : (r s : Region) → AreApart r s → AreApart s r
swapped r s apart = ⊎_elim (λ low. inr low) (λ high. inl high) apart

-- no two regions meet
abbrev pub NoneMeet : List Region → Type 0
NoneMeet rs = AllPairs (λ earlier later. meets later earlier ≡ false) rs

apart_at : (rs : List Region) (x y : ℕ) (d : Region) → NoneMeet rs → (x < y) ⊎ (y < x) → x < length rs → y < length rs
    → AreApart (get_or rs x d) (get_or rs y d)
apart_at rs x y d unmet order x_in y_in =
    ⊎_elim (λ before. swapped (get_or rs y d) (get_or rs x d) (apart_from (get_or rs y d) (get_or rs x d) (unmet x y d before y_in)))
    (λ behind. apart_from (get_or rs x d) (get_or rs y d) (unmet y x d behind x_in)) order

-- the codes of two modules lie apart, and so do a module's data and any module's code
pub codes_apart : (ms : List Module) (i j : ℕ) (e : Module) → NoneMeet (regions_of 0 ms) → i < j → j < length ms
    → AreApart (code_region i (get_or ms i e)) (code_region j (get_or ms j e))
codes_apart ms i j e unmet order below =
    let d = code_region j (get_or ms j e) in
    let i_below : i < length ms = omega arith in
    let before : twice i < twice j = omega (arith, twice_is i, twice_is j) in
    let apart = apart_at (regions_of 0 ms) (twice i) (twice j) d unmet (inl before) (code_below ms i i_below) (code_below ms j below) in
    subst (λ (r : Region). AreApart r (code_region j (get_or ms j e))) (code_at 0 i i ms d e (omega arith) i_below)
    (subst (λ (s : Region). AreApart (get_or (regions_of 0 ms) (twice i) d) s) (code_at 0 j j ms d e (omega arith) below) apart)

odd_or_even : (i j : ℕ) → (suc (twice i) < twice j) ⊎ (twice j < suc (twice i))
odd_or_even i j =
    ⊎_elim (λ below. inl (omega (arith, twice_is i, twice_is j))) (λ above. inr (omega (arith, twice_is i, twice_is j))) (cases_lt i j)

pub data_beside_code : (ms : List Module) (i j : ℕ) (e : Module) → NoneMeet (regions_of 0 ms) → i < length ms → j < length ms
    → AreApart (data_region i (get_or ms i e)) (code_region j (get_or ms j e))
data_beside_code ms i j e unmet i_below j_below =
    let d = code_region j (get_or ms j e) in
    let apart = apart_at (regions_of 0 ms) (suc (twice i)) (twice j) d unmet (odd_or_even i j) (data_below ms i i_below) (code_below ms j j_below) in
    subst (λ (r : Region). AreApart r (code_region j (get_or ms j e))) (data_at 0 i i ms d e (omega arith) i_below)
    (subst (λ (s : Region). AreApart (get_or (regions_of 0 ms) (suc (twice i)) d) s) (code_at 0 j j ms d e (omega arith) j_below) apart)

-- a module may store in its own data region
is_bit : (i : ℕ) → bits (2 ^ i) i 1 ≡ 1
is_bit i =
    let whole : 1 * 2 ^ i ≡ 2 ^ i = omega arith in
    ap (λ n. n / 2 ^ i % 2 ^ 1) (sym whole) ∙ ap (λ n. n % 2 ^ 1) (shl-shr 1 i)

lets_own : (i : ℕ) (m : Module) → lets i Store m.placed.data_base (want_of m.preamble).data_bytes (data_region i m) ≡ true
lets_own i m =
    let r = data_region i m in
    let covered =
    and_from (nat_le r.base r.base) (nat_le (r.base + r.size) (r.base + r.size)) (le-leb r.base r.base (omega arith))
    (le-leb (r.base + r.size) (r.base + r.size) (omega arith)) in
    let given = and_from (covers r r.base r.size) (gives r.rights Store) covered refl in
    and_from (covers r r.base r.size && gives r.rights Store) (is_for i r) given (eq-eqb (bits (2 ^ i) i 1) 1 (is_bit i))

abbrev blank : Module
blank = loaded (words_of [], record { code_base = 0; data_base = 0 })

pub own_data : (g : Memory) (ms : List Module) (i : ℕ) → g.regions ≡ regions_of 0 ms → i < length ms
    → may g i Store (module_at ms i).placed.data_base (want_of (module_at ms i).preamble).data_bytes ≡ true
own_data g ms i same below =
    let m = module_at ms i in
    let n = (want_of m.preamble).data_bytes in
    let test : Region → Bool = lets i Store m.placed.data_base n in
    let d = data_region i m in
    let held = subst (λ (r : Region). test r ≡ true) (sym (data_at 0 i i ms d blank (omega arith) below)) (lets_own i m) in
    let listed = list_any_at test (regions_of 0 ms) (suc (twice i)) d (data_below ms i below) held in
    or_right (n == 0) (list_any test g.regions) (subst (λ (rs : List Region). list_any test rs ≡ true) (sym same) listed)

-- the state of a module doesn't matter to the regions
pub regions_stay : (j : ℕ) (ms : List Module) (i : ℕ) (s : ModuleState) → regions_of j (with_state ms i s) ≡ regions_of j ms
regions_stay j [] i s = refl
regions_stay j (m ∷ ms) zero s = refl
regions_stay j (m ∷ ms) (suc i) s = ap (λ (rs : List Region). code_region j m ∷ data_region j m ∷ rs) (regions_stay (j + 1) ms i s)
