-- A part of memory that is lent to be written.
use Rattle.std.specs.Prelude.{ℕ, List}
use Rattle.std.specs.Borrow.{Lends, MutBor, Fml, Array, u8}
use Rattle.region_guard.specs.Memory.{Memory, with_bytes}
use Rattle.region_guard.specs.contracts.guard.Guard.{the_row}

-- the memory ends with what was written through the window, from its address on
abbrev pub LendsWindow : MutBor Memory → ℕ → MutBor (List ℕ) → Fml
LendsWindow g a window = Lends the_row (Array u8 0) g window (with_bytes g.now a)
