-- The fields and immediates of a word by instruction format (RISC-V Unprivileged ISA Manual, "Base
-- Instruction Formats" and "Immediate Encoding Variants").
use Rattle.std.specs.Prelude.{ℕ, ℤ, ◌+◌, ◌*◌, ◌^◌}
use Rattle.machine_words.specs.Bits.{bits, signed}

abbrev pub opcode : ℕ → ℕ
opcode w = bits w 0 7

abbrev pub rd : ℕ → ℕ
rd w = bits w 7 5

abbrev pub funct3 : ℕ → ℕ
funct3 w = bits w 12 3

abbrev pub rs1 : ℕ → ℕ
rs1 w = bits w 15 5

abbrev pub rs2 : ℕ → ℕ
rs2 w = bits w 20 5

abbrev pub funct7 : ℕ → ℕ
funct7 w = bits w 25 7

-- the amount of a shift stands in the place of rs2
abbrev pub amount : ℕ → ℕ
amount w = bits w 20 5

-- bits 31 to 20, sign-extended
abbrev pub i_immediate : ℕ → ℤ
i_immediate w = signed 12 (bits w 20 12)

-- bits 31 to 25, then 11 to 7, sign-extended
abbrev pub s_immediate : ℕ → ℤ
s_immediate w = signed 12 (bits w 25 7 * 2 ^ 5 + bits w 7 5)

-- bits 31, 7, 30 to 25, 11 to 8, then a zero, sign-extended
abbrev pub b_immediate : ℕ → ℤ
b_immediate w =
    signed 13 (bits w 31 1 * 2 ^ 12 + bits w 7 1 * 2 ^ 11 + bits w 25 6 * 2 ^ 5 + bits w 8 4 * 2)

-- bits 31 to 12, then twelve zeros
abbrev pub u_immediate : ℕ → ℤ
u_immediate w = signed 32 (bits w 12 20 * 2 ^ 12)

-- bits 31, 19 to 12, 20, 30 to 21, then a zero, sign-extended
abbrev pub j_immediate : ℕ → ℤ
j_immediate w =
    signed 21 (bits w 31 1 * 2 ^ 20 + bits w 12 8 * 2 ^ 12 + bits w 20 1 * 2 ^ 11
    + bits w 21 10 * 2)
