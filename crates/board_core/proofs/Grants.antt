-- What a slot is granted, bit by bit: one grant more, and one less.
use Rattle.std.proofs.Common.{◌≡◌, ◌≢◌, ℕ, zero, suc, ◌-◌, ◌/◌, ◌^◌, ◌≤◌, bit_or, refl, sym, ap, ◌∙◌, ⊎_elim, arith}
use Rattle.std.proofs.Math.Nat.{pow-suc}
use Rattle.std.proofs.lemmas.Bool.{cases_lt}
use Rattle.std.specs.Int.{bit_at}
use Rattle.std.proofs.lemmas.Nat.Bits.{bit_at-pow_other, bit_at-suc, bit_at_above, bit_at_lowest, bit_at_or}

-- a number with a bit is at least the power of two
at_least : (x m : ℕ) → bit_at x m ≡ 1 → 2 ^ m ≤ x
at_least x m has = ⊎_elim (λ small. let none = bit_at_above x m m small (omega arith) in omega (arith, has, none)) (λ more. more) (cases_lt x (2 ^ m))

-- where a bit is cleared the others stay
pub others_stay : (x m j : ℕ) → bit_at x m ≡ 1 → j ≢ m → bit_at (x - 2 ^ m) j ≡ bit_at x j
others_stay x zero zero has other = absurd (other refl)
others_stay x zero (suc j) has other =
    let half : (x - 2 ^ 0) / 2 ≡ x / 2 = omega (arith, sym (bit_at_lowest x) ∙ has) in
    bit_at-suc (x - 2 ^ 0) j ∙ ap (λ y. bit_at y j) half ∙ sym (bit_at-suc x j)
others_stay x (suc m) zero has other =
    bit_at_lowest (x - 2 ^ suc m) ∙ omega (arith, pow-suc 2 m, at_least x (suc m) has) ∙ sym (bit_at_lowest x)
others_stay x (suc m) (suc j) has other =
    let half : (x - 2 ^ suc m) / 2 ≡ x / 2 - 2 ^ m = omega (arith, pow-suc 2 m, at_least x (suc m) has) in
    bit_at-suc (x - 2 ^ suc m) j ∙ ap (λ y. bit_at y j) half
    ∙ (others_stay (x / 2) m j (sym (bit_at-suc x m) ∙ has) (λ same. other (ap suc same)) ∙ sym (bit_at-suc x j))

-- a bit of a number with one bit more is that one or an earlier one
pub one_more : (x m j : ℕ) → bit_at (bit_or x (2 ^ m)) j ≡ 1 → j ≢ m → bit_at x j ≡ 1
one_more x m j has other = omega (arith, has, bit_at_or x (2 ^ m) j, bit_at-pow_other m j other)
