-- A signed number and the bits of its field: each is got back from the other.
use Rattle.std.proofs.Common.{ℕ, ℤ, pos, negsuc, neg_ℤ, suc, ◌≡◌, ◌+◌, ◌-◌, ◌*◌, ◌/◌, ◌%◌, ◌^◌, ◌<◌, ◌≤◌, ◌≤ℤ◌, ◌<ℤ◌, ◌-ℤ◌, arith, ap, sym, subst, ◌∙◌, refl}
use Rattle.std.proofs.Common.{◌+ℤ◌, w32, of_z, to_z, FitsSigned, rules}
use Rattle.std.specs.Prelude.{unsigned_abs, if◌then◌else◌, nat_lt}
use Rattle.std.specs.Int.{int_rem_euclid}
use Rattle.std.specs.Int.Signed.{shr_z}
use Rattle.std.proofs.lemmas.Int.{ints, int_rem_euclid_is, to_z-of_z, to_z_pos}
use Rattle.std.proofs.lemmas.Nat.{div-add-mod', div-mul-add, pow-add, pow_pos, one_shl, shl-shr, shl_whole}
use Rattle.machine_words.specs.Bits.{bits, signed}
use Rattle.rv_decode.specs.Encode.{field}
use Rattle.rv_decode.specs.Fields.{i_immediate, s_immediate, b_immediate, u_immediate, j_immediate}
use Rattle.rv_decode.specs.WellFormed.{IsImmediate}
use Rattle.std.proofs.lemmas.Bool.{lt-ltb, ltb-true, ltb-false, cond_both}
use Rattle.std.proofs.Math.Nat.{mod-eq_of_lt, mul-le-mul_left}

-- two's complement with half of the numbers below h
abbrev signed_at : ℕ → ℕ → ℤ
signed_at h n = if nat_lt n h then pos n else pos n -ℤ pos (2 * h)

abbrev field_at : ℕ → ℤ → ℕ
field_at h z = unsigned_abs (int_rem_euclid z (pos (2 * h)))

field_at-pos : (h a : ℕ) → a < 2 * h → field_at h (pos a) ≡ a
field_at-pos h a p = mod-eq_of_lt p

field_at-negsuc : (h a : ℕ) → a < 2 * h → field_at h (negsuc a) ≡ 2 * h - 1 - a
field_at-negsuc h a p = ap (λ m. 2 * h - 1 - m) (mod-eq_of_lt p)

high_half : (h n : ℕ) → n < 2 * h → pos n -ℤ pos (2 * h) ≡ negsuc (2 * h - 1 - n)
high_half h n p = omega (arith, ints)

signed_at-low : (h n : ℕ) → n < h → signed_at h n ≡ pos n
signed_at-low h n p = rw (lt-ltb n h p)

signed_at-high : (h n : ℕ) → h ≤ n → n < 2 * h → signed_at h n ≡ negsuc (2 * h - 1 - n)
signed_at-high h n p q =
    let P : ℤ → Type 0 = λ z. z ≡ negsuc (2 * h - 1 - n) in
    cond_both (nat_lt n h) (pos n) (pos n -ℤ pos (2 * h)) P
    (λ e. absurd (omega (arith, ltb-true n h e)))
    (λ _. high_half h n q)

pub field_at-lt : (h : ℕ) (z : ℤ) → 0 < h → field_at h z < 2 * h
field_at-lt h (pos a) p = omega arith
field_at-lt h (negsuc a) p = omega arith

pub signed-field : (h : ℕ) (z : ℤ) → neg_ℤ (pos h) ≤ℤ z → z <ℤ pos h → signed_at h (field_at h z) ≡ z
signed-field h (pos a) low high =
    let small : a < h = omega (arith, ints) in
    ap (signed_at h) (field_at-pos h a (omega arith)) ∙ signed_at-low h a small
signed-field h (negsuc a) low high =
    let small : a < h = omega (arith, ints) in
    ap (signed_at h) (field_at-negsuc h a (omega arith))
    ∙ signed_at-high h (2 * h - 1 - a) (omega arith) (omega arith)
    ∙ ap negsuc (omega arith)

pub field-signed : (h n : ℕ) → n < 2 * h → field_at h (signed_at h n) ≡ n
field-signed h n p =
    let P : ℤ → Type 0 = λ z. field_at h z ≡ n in
    cond_both (nat_lt n h) (pos n) (pos n -ℤ pos (2 * h)) P
    (λ _. field_at-pos h n p)
    (λ _. ap (field_at h) (high_half h n p) ∙ field_at-negsuc h (2 * h - 1 - n) (omega arith) ∙ omega arith)

up_by : (a m : ℕ) → a < m → negsuc a +ℤ pos m ≡ pos (m - suc a)
up_by a m p = omega (arith, ints)

-- an i32's bits, cut to the lowest of them
pub cast-field : (k j : ℕ) (z : ℤ) → j + k ≡ 32 → FitsSigned w32 z → of_z w32 z % 2 ^ k ≡ field k z
cast-field k j (pos a) e f = refl
cast-field k j (negsuc a) e f =
    let whole : 2 ^ j * 2 ^ k ≡ 2 ^ 32 = sym (pow-add 2 j k) ∙ ap (λ n. 2 ^ n) e in
    let small : a < 2 ^ 32 = omega (arith, ints) in
    let sum : negsuc a +ℤ pos (2 ^ j * 2 ^ k) ≡ pos (2 ^ 32 - suc a) = ap (λ m. negsuc a +ℤ pos m) whole ∙ up_by a (2 ^ 32) small in
    ap unsigned_abs (sym (int_rem_euclid_is (negsuc a) (pos (2 ^ k)) (2 ^ k) (2 ^ j) (2 ^ 32 - suc a) (pow_pos k) refl sum))

-- what the code's cast of an i32 gives, cut to the lowest bits
pub low_bits-cast : (r k : ℕ) (z : ℤ) → k < 32 → FitsSigned w32 z → r ≡ of_z w32 (to_z w32 (of_z w32 z)) → r % (1 * 2 ^ k % 2 ^ 32) ≡ field k z
low_bits-cast r k z below fits e =
    ap (λ m. r % m) (one_shl k 32 below)
    ∙ ap (λ n. n % 2 ^ k) (e ∙ ap (of_z w32) (to_z-of_z w32 z fits))
    ∙ cast-field k (32 - k) z (omega arith) fits

-- the code's cast is the whole field of 32 bits
pub cast-whole : (r : ℕ) (z : ℤ) → FitsSigned w32 z → r < 2 ^ 32 → r ≡ of_z w32 (to_z w32 (of_z w32 z)) → r ≡ field 32 z
cast-whole r z fits below e =
    let same = e ∙ ap (of_z w32) (to_z-of_z w32 z fits) in
    sym (mod-eq_of_lt below) ∙ ap (λ n. n % 2 ^ 32) same ∙ cast-field 32 0 z (omega arith) fits

-- a U immediate has twelve zeros
pub twelve_zeros : (z : ℤ) → int_rem_euclid z (pos (2 ^ 12)) ≡ pos 0 → field 32 z % 2 ^ 12 ≡ 0
twelve_zeros (pos a) e = let low : a % 2 ^ 12 ≡ 0 = cc in omega arith
twelve_zeros (negsuc a) e = let low : 2 ^ 12 - 1 - a % 2 ^ 12 ≡ 0 = cc in omega arith

even_below : (h a : ℕ) → a % 2 ≡ 1 → (2 * h - 1 - a % (2 * h)) % 2 ≡ 0
even_below h a odd = omega (arith, div-add-mod' a (2 * h))

-- an immediate that 2 divides has an even field
pub even_field : (h : ℕ) (z : ℤ) → int_rem_euclid z (pos 2) ≡ pos 0 → field_at h z % 2 ≡ 0
even_field h (pos a) e =
    let low : a % 2 ≡ 0 = cc in
    omega (arith, div-add-mod' a (2 * h))
even_field h (negsuc a) e =
    let low : 1 - a % 2 ≡ 0 = cc in
    even_below h a (omega arith)

-- the immediate of a format in any word is in the format's range
in_range : (h n : ℕ) → n < 2 * h → (neg_ℤ (pos h) ≤ℤ signed_at h n) × (signed_at h n <ℤ pos h)
in_range h n below =
    let P : ℤ → Type 0 = λ z. (neg_ℤ (pos h) ≤ℤ z) × (z <ℤ pos h) in
    cond_both (nat_lt n h) (pos n) (pos n -ℤ pos (2 * h)) P
    (λ e. let small = ltb-true n h e in (omega (arith, ints), omega (arith, ints)))
    (λ e. let large = ltb-false n h e in (omega (arith, ints), omega (arith, ints)))

there_and_back : (n m : ℕ) → pos n -ℤ pos m +ℤ pos m ≡ pos n
there_and_back n m = omega (arith, ints)

-- and a step that divides both the bits and their number divides it
divided : (h n s q : ℕ) → 0 < s → 2 * h ≡ q * s → n % s ≡ 0 → int_rem_euclid (signed_at h n) (pos s) ≡ pos 0
divided h n s q positive whole zero =
    let P : ℤ → Type 0 = λ z. int_rem_euclid z (pos s) ≡ pos 0 in
    let back : pos n -ℤ pos (2 * h) +ℤ pos (q * s) ≡ pos n = ap (λ m. pos n -ℤ pos (2 * h) +ℤ pos m) (sym whole) ∙ there_and_back n (2 * h) in
    cond_both (nat_lt n h) (pos n) (pos n -ℤ pos (2 * h)) P
    (λ _. ap pos zero)
    (λ _. int_rem_euclid_is (pos n -ℤ pos (2 * h)) (pos s) s q n positive refl back ∙ ap pos zero)

pub i_formed : (w : ℕ) → IsImmediate 12 1 (i_immediate w)
i_formed w =
    let n = bits w 20 12 in
    let range = in_range (2 ^ 11) n (omega arith) in
    record { low = range.0; high = range.1; divided = divided (2 ^ 11) n 1 (2 ^ 12) (omega arith) refl (omega arith) }

pub s_formed : (w : ℕ) → IsImmediate 12 1 (s_immediate w)
s_formed w =
    let n = bits w 25 7 * 2 ^ 5 + bits w 7 5 in
    let range = in_range (2 ^ 11) n (omega arith) in
    record { low = range.0; high = range.1; divided = divided (2 ^ 11) n 1 (2 ^ 12) (omega arith) refl (omega arith) }

pub b_formed : (w : ℕ) → IsImmediate 13 2 (b_immediate w)
b_formed w =
    let n = bits w 31 1 * 2 ^ 12 + bits w 7 1 * 2 ^ 11 + bits w 25 6 * 2 ^ 5 + bits w 8 4 * 2 in
    let range = in_range (2 ^ 12) n (omega arith) in
    record { low = range.0; high = range.1; divided = divided (2 ^ 12) n 2 (2 ^ 12) (omega arith) refl (omega arith) }

pub u_formed : (w : ℕ) → IsImmediate 32 4096 (u_immediate w)
u_formed w =
    let n = bits w 12 20 * 2 ^ 12 in
    let range = in_range (2 ^ 31) n (omega arith) in
    record { low = range.0; high = range.1; divided = divided (2 ^ 31) n (2 ^ 12) (2 ^ 20) (omega arith) refl (omega arith) }

pub j_formed : (w : ℕ) → IsImmediate 21 2 (j_immediate w)
j_formed w =
    let n = bits w 31 1 * 2 ^ 20 + bits w 12 8 * 2 ^ 12 + bits w 20 1 * 2 ^ 11 + bits w 21 10 * 2 in
    let range = in_range (2 ^ 20) n (omega arith) in
    record { low = range.0; high = range.1; divided = divided (2 ^ 20) n 2 (2 ^ 20) (omega arith) refl (omega arith) }

to_z-high : (n : ℕ) → 2 ^ 31 ≤ n → n < 2 ^ 32 → to_z w32 n ≡ negsuc (2 ^ 32 - suc n)
to_z-high n p q =
    let P : ℤ → Type 0 = λ z. z ≡ negsuc (2 ^ 32 - suc n) in
    cond_both (nat_lt n (2 ^ 31)) (pos n) (negsuc (2 ^ 32 - suc n)) P
    (λ e. absurd (omega (arith, ltb-true n (2 ^ 31) e)))
    (λ _. refl)

-- the quotient of what is left of 2^32
complement : (h c n : ℕ) → 0 < c → n < 2 * h → h * c ≡ 2 ^ 31 → (2 ^ 32 - suc (n * c)) / c ≡ 2 * h - 1 - n
complement h c n positive below whole =
    let m = 2 * h - 1 - n in
    let count : m + n + 1 ≡ 2 * h = omega arith in
    let all : (m + n + 1) * c ≡ 2 ^ 32 = ap (λ x. x * c) count ∙ omega (arith, whole) in
    let split : 2 ^ 32 - suc (n * c) ≡ m * c + (c - 1) = omega (arith, all) in
    ap (λ x. x / c) split ∙ div-mul-add m c (c - 1) (omega arith)

up-to : (n m : ℕ) → n < m → n + 1 ≤ m
up-to n m p = omega arith

-- a number at the top of a word, read as signed and shifted down
shifted : (h k n : ℕ) → n < 2 * h → h * 2 ^ k ≡ 2 ^ 31 → shr_z (to_z w32 (n * 2 ^ k)) (2 ^ k) ≡ signed_at h n
shifted h k n below whole =
    let P : ℤ → Type 0 = λ z. shr_z (to_z w32 (n * 2 ^ k)) (2 ^ k) ≡ z in
    cond_both (nat_lt n h) (pos n) (pos n -ℤ pos (2 * h)) P
    (λ e.
    let small : n * 2 ^ k < 2 ^ 31 = subst (λ m. n * 2 ^ k < m) whole (omega (arith, mul-le-mul_left (2 ^ k) (up-to n h (ltb-true n h e)), pow_pos k)) in
    ap (λ z. shr_z z (2 ^ k)) (to_z_pos w32 (n * 2 ^ k) small) ∙ ap pos (shl-shr n k))
    (λ e.
    let large : 2 ^ 31 ≤ n * 2 ^ k = subst (λ m. m ≤ n * 2 ^ k) whole (omega (arith, mul-le-mul_left (2 ^ k) (ltb-false n h e))) in
    let fits : n * 2 ^ k < 2 ^ 32 = omega (arith, mul-le-mul_left (2 ^ k) (up-to n (2 * h) below), pow_pos k, whole) in
    ap (λ z. shr_z z (2 ^ k)) (to_z-high (n * 2 ^ k) large fits)
    ∙ ap negsuc (complement h (2 ^ k) n (pow_pos k) below whole)
    ∙ sym (high_half h n below))

next : (k : ℕ) → 0 < k → k ≡ 1 + (k - 1)
next k p = omega arith

-- the two shifts of the code are sign extension
pub extended : (n width : ℕ) (z : ℤ) → 0 < width → width ≤ 32 → n < 2 ^ width → FitsSigned w32 z → z ≡ to_z w32 (n * 2 ^ (32 - width) % 2 ^ 32)
    → to_z w32 (of_z w32 (shr_z (to_z w32 (of_z w32 z)) (2 ^ (32 - width)))) ≡ signed width n
extended n width z positive narrow below fits e =
    let spare = 32 - width in
    let h = 2 ^ (width - 1) in
    let double : 2 ^ width ≡ 2 * h = ap (λ k. 2 ^ k) (next width positive) ∙ pow-add 2 1 (width - 1) in
    let sum : width - 1 + spare ≡ 31 = omega arith in
    let whole : h * 2 ^ spare ≡ 2 ^ 31 = sym (pow-add 2 (width - 1) spare) ∙ ap (λ k. 2 ^ k) sum in
    let at_top : z ≡ to_z w32 (n * 2 ^ spare) = e ∙ ap (to_z w32) (shl_whole n width spare 32 below (omega arith)) in
    let stays : FitsSigned w32 (shr_z z (2 ^ spare)) = search rules in
    ap (λ x. to_z w32 (of_z w32 (shr_z x (2 ^ spare)))) (to_z-of_z w32 z fits)
    ∙ to_z-of_z w32 (shr_z z (2 ^ spare)) stays
    ∙ ap (λ x. shr_z x (2 ^ spare)) at_top
    ∙ shifted h spare n (subst (λ m. n < m) double below) whole
    ∙ ap (λ m. if nat_lt n h then pos n else pos n -ℤ pos m) (sym double)
