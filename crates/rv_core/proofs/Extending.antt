-- A byte and a half word read as signed numbers, as words.
use Rattle.std.proofs.Common.{◌≡◌, ℕ, ◌%◌, ◌^◌, ◌<◌, arith, w8, w32}
use Rattle.std.specs.Int.{cast_signed, cast_unsigned, w16}
use Rattle.std.proofs.lemmas.Bool.Decides.{nat_tests}
use Rattle.std.proofs.lemmas.Int.{ints}
use Rattle.machine_words.specs.Bits.{signed, word_of}

pub byte_extended : (b : ℕ) → b < 256 → cast_unsigned w32 (cast_signed w8 b) ≡ word_of (signed 8 b)
byte_extended b small = grind (arith, nat_tests, ints)

pub half_extended : (b : ℕ) → b < 65536 → cast_unsigned w32 (cast_signed w16 b) ≡ word_of (signed 16 b)
half_extended b small = grind (arith, nat_tests, ints)

pub whole_extended : (w : ℕ) → w < 2 ^ 32 → word_of (signed 32 (w % 2 ^ 32)) ≡ w
whole_extended w small = grind (arith, nat_tests, ints)
