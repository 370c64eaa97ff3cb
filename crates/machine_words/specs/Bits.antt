-- Bit fields of a word by division and remainder, and words read as signed numbers.
use Rattle.std.specs.Prelude.{ℕ, ℤ, pos, ◌-◌, ◌/◌, ◌%◌, ◌^◌, ◌-ℤ◌, nat_lt, if◌then◌else◌}
use Rattle.std.specs.Prelude.{unsigned_abs}
use Rattle.std.specs.Int.{int_rem_euclid}

-- count bits of a word, from the bit low on
abbrev pub bits : ℕ → ℕ → ℕ → ℕ
bits w low count = w / 2 ^ low % 2 ^ count

-- a number of the given number of bits, read as two's complement: sign extension
abbrev pub signed : ℕ → ℕ → ℤ
signed width n = if nat_lt n (2 ^ (width - 1)) then pos n else pos n -ℤ pos (2 ^ width)

-- the word of an integer: the integer modulo 2^32
abbrev pub word_of : ℤ → ℕ
word_of z = unsigned_abs (int_rem_euclid z (pos (2 ^ 32)))
