-- Numbers as their bytes, the lowest first.
use Rattle.std.proofs.Common.{◌≡◌, ℕ, zero, suc, ◌+◌, ◌*◌, ◌/◌, ◌%◌, ◌^◌, slice_index, refl, sym, ap, ◌∙◌, add-zero, lit≤, arith}
use Rattle.std.proofs.Math.Arith.{mod-mul}
use Rattle.std.proofs.Math.Nat.{div-div-eq-div-mul, div-one, mod-one, mul_comm, one-le-pow, pow-suc}
use Rattle.machine_words.specs.Number.{number_from, low_bytes}
use Rattle.flat_ram.specs.Laws.{SameBytesSameNumber, WidthIsLength, LowestFirst}

pub same_number : SameBytesSameNumber
same_number byte other a b zero same = refl
same_number byte other a b (suc n) same =
    let first : byte a ≡ other b = simp add-zero at (same 0 (omega arith)) in
    let rest =
    same_number byte other (a + 1) (b + 1) n (λ k below. let at_a : a + 1 + k ≡ a + (k + 1) = omega arith in
    let at_b : b + 1 + k ≡ b + (k + 1) = omega arith in rw (at_a, at_b) (same (k + 1) (omega arith))) in
    rw (first, rest) refl

pub length-low_bytes : WidthIsLength
length-low_bytes zero v = refl
length-low_bytes (suc n) v = ap suc (length-low_bytes n (v / 256))

pub lowest_first : LowestFirst
lowest_first zero v k below = absurd (omega arith)
lowest_first (suc n) v zero below = rw div-one refl
lowest_first (suc n) v (suc k) below =
    lowest_first n (v / 256) k (omega arith) ∙ ap
    (λ (q : ℕ). q % 256) (div-div-eq-div-mul v 256 (256 ^ k) ∙ ap (λ (d : ℕ). v / d) (mul_comm 256 (256 ^ k) ∙ sym (pow-suc 256 k)))

-- the number of the low bytes of v is v cut to its width
pub number_of_low_bytes : (n v : ℕ) → number_from (slice_index (low_bytes n v)) 0 n ≡ v % 256 ^ n
number_of_low_bytes zero v = sym (mod-one v)
number_of_low_bytes (suc n) v =
    let all : ℕ → ℕ = slice_index (low_bytes (suc n) v) in
    let tail : ℕ → ℕ = slice_index (low_bytes n (v / 256)) in
    let moved : number_from all 1 n ≡ number_from tail 0 n =
    same_number all tail 1 0 n (λ k below. let next : 1 + k ≡ suc k = omega arith in let here : 0 + k ≡ k = omega arith in rw (next, here) refl) in
    let split : v % (256 ^ n * 256) ≡ (v / 256 % 256 ^ n) * 256 + v % 256 = mod-mul v (one-le-pow n 256 (lit≤ tt)) (lit≤ tt) in
    let rest = number_of_low_bytes n (v / 256) in
    rw (moved, rest, pow-suc 256 n, split) (omega arith)
