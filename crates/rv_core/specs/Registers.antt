-- The numbers of registers, by their names in the calling convention (RISC-V ABIs Specification,
-- "Integer Register Convention").
use Rattle.std.specs.Prelude.{ℕ}

-- the stack pointer, and the global pointer
abbrev pub sp : ℕ
sp = 2

abbrev pub gp : ℕ
gp = 3

-- arguments
abbrev pub a0 : ℕ
a0 = 10

abbrev pub a1 : ℕ
a1 = 11

abbrev pub a2 : ℕ
a2 = 12

abbrev pub a3 : ℕ
a3 = 13

abbrev pub a4 : ℕ
a4 = 14

abbrev pub a5 : ℕ
a5 = 15

abbrev pub a6 : ℕ
a6 = 16

abbrev pub a7 : ℕ
a7 = 17
