-- A part of the bytes that is lent to be written.
use Rattle.std.specs.Prelude.{ℕ, List}
use Rattle.std.specs.Borrow.{Lends, MutBor, Fml, Array, u8}
use Rattle.flat_ram.specs.Ram.{over}
use Rattle.flat_ram.specs.contracts.ram.Ram.{the_row}

-- the bytes end with what was written through the part, from its offset on
abbrev pub LendsPart : MutBor (List ℕ) → ℕ → MutBor (List ℕ) → Fml
LendsPart ram at part = Lends the_row (Array u8 0) ram part (over ram.now at)
