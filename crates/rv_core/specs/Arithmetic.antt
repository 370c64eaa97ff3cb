-- The operations on words (RISC-V Unprivileged ISA Manual, "Integer Computational Instructions" and
-- the M extension). A word is a number below 2^32; `signed 32` reads it as a signed number, and
-- `word_of` takes an integer modulo 2^32.
use Rattle.std.specs.Prelude.{ℕ, ℤ, pos, ◌+◌, ◌-◌, ◌*◌, ◌/◌, ◌%◌, ◌^◌, ◌-ℤ◌, ◌==◌, Bool}
use Rattle.std.specs.Prelude.{if◌then◌else◌}
use Rattle.std.specs.Int.{int_div_euclid}
use Rattle.std.specs.Int.RustNames.{int_lt, int_div, int_rem}
use Rattle.machine_words.specs.Bits.{signed, word_of}

-- a word as a signed number
abbrev pub int : ℕ → ℤ
int a = signed 32 a

-- 1 for true, 0 for false
abbrev pub flag : Bool → ℕ
flag b = if b then 1 else 0

abbrev pub sum : ℕ → ℕ → ℕ
sum a b = (a + b) % 2 ^ 32

abbrev pub difference : ℕ → ℕ → ℕ
difference a b = word_of (pos a -ℤ pos b)

-- a shift takes the low five bits of its amount; to the right it divides, rounding down
abbrev pub shifted_left : ℕ → ℕ → ℕ
shifted_left a n = a * 2 ^ (n % 32) % 2 ^ 32

abbrev pub shifted_right : ℕ → ℕ → ℕ
shifted_right a n = a / 2 ^ (n % 32)

abbrev pub shifted_right_signed : ℕ → ℕ → ℕ
shifted_right_signed a n = word_of (int_div_euclid (int a) (pos (2 ^ (n % 32))))

abbrev pub less_signed : ℕ → ℕ → Bool
less_signed a b = int_lt (int a) (int b)

-- the low word of a product, and the high word by the signs of the factors
abbrev pub product_low : ℕ → ℕ → ℕ
product_low a b = a * b % 2 ^ 32

abbrev pub high_word : ℤ → ℕ
high_word z = word_of (int_div_euclid z (pos (2 ^ 32)))

-- division rounds towards zero; by zero it gives all ones, and the dividend as remainder
abbrev pub quotient : ℕ → ℕ → ℕ
quotient a b = if b == 0 then 2 ^ 32 - 1 else word_of (int_div (int a) (int b))

abbrev pub remainder : ℕ → ℕ → ℕ
remainder a b = if b == 0 then a else word_of (int_rem (int a) (int b))

abbrev pub quotient_unsigned : ℕ → ℕ → ℕ
quotient_unsigned a b = if b == 0 then 2 ^ 32 - 1 else a / b

abbrev pub remainder_unsigned : ℕ → ℕ → ℕ
remainder_unsigned a b = if b == 0 then a else a % b
