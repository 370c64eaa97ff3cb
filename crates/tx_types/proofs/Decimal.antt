-- How many digits a number has.
use Rattle.std.proofs.Common.{ℕ, ◌<◌, ◌≤◌, length, arith}
use Rattle.std.specs.Prelude.{decimal}
use Rattle.std.proofs.lemmas.Fmt.{length-decimal-le}

pub three_digits : (n : ℕ) → n < 256 → length (decimal n) ≤ 3
three_digits n small = length-decimal-le 3 n (omega arith) (omega arith) (omega arith)
