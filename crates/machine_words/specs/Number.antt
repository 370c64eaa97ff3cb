-- Numbers of several bytes, the lowest byte first (RISC-V Unprivileged ISA Manual, introduction,
-- "Memory").
use Rattle.std.specs.Prelude.{◌≡◌, ◌⊎◌, ◌&&◌, ℕ, zero, suc, ◌+◌, ◌-◌, ◌*◌, ◌/◌, ◌%◌, ◌^◌, nat_le}
use Rattle.std.specs.Prelude.{nat_lt, List, [], ◌∷◌, if◌then◌else◌}

-- the widths in bytes of a load or store: a byte, a halfword, a word
abbrev pub IsWidth : ℕ → Type 0
IsWidth n = (n ≡ 1) ⊎ (n ≡ 2) ⊎ (n ≡ 4)

-- the number in the n bytes from an address on
abbrev pub number_from : (ℕ → ℕ) → ℕ → ℕ → ℕ
number_from byte a zero = 0
number_from byte a (suc n) = byte a + 256 * number_from byte (a + 1) n

-- the low n bytes of a number
abbrev pub low_bytes : ℕ → ℕ → List ℕ
low_bytes zero v = []
low_bytes (suc n) v = v % 256 ∷ low_bytes n (v / 256)

-- the byte at x, after the low n bytes of v were stored from the address a on
abbrev pub after_store : (ℕ → ℕ) → ℕ → ℕ → ℕ → ℕ → ℕ
after_store byte a n v x =
    if nat_le a x && nat_lt x (a + n) then v / 256 ^ (x - a) % 256 else byte x
