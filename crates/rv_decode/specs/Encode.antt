-- The word of an instruction: the word of its format with its row's codes and its fields (RISC-V
-- Unprivileged ISA Manual, "Base Instruction Formats").
use Rattle.std.specs.Prelude.{ℕ, ℤ, pos, ◌+◌, ◌*◌, ◌^◌, unsigned_abs}
use Rattle.std.specs.Int.{int_rem_euclid}
use Rattle.machine_words.specs.Bits.{bits}
use Rattle.rv_decode.specs.declared.Instr.{Instr}
use Rattle.rv_decode.specs.declared.Instr.TheVariants.{Lui, Auipc, Jal, Jalr, Beq, Bne, Blt, Bge}
use Rattle.rv_decode.specs.declared.Instr.TheVariants.{Bltu, Bgeu, Lb, Lh, Lw, Lbu, Lhu, Sb, Sh, Sw}
use Rattle.rv_decode.specs.declared.Instr.TheVariants.{Addi, Slti, Sltiu, Xori, Ori, Andi, Slli}
use Rattle.rv_decode.specs.declared.Instr.TheVariants.{Srli, Srai, Add, Sub, Sll, Slt, Sltu, Xor}
use Rattle.rv_decode.specs.declared.Instr.TheVariants.{Srl, Sra, Or, And, Fence, Ecall, Ebreak, Mul}
use Rattle.rv_decode.specs.declared.Instr.TheVariants.{Mulh, Mulhsu, Mulhu, Div, Divu, Rem, Remu}

-- a signed number in a field of the given number of bits: the number modulo 2^width
abbrev pub field : ℕ → ℤ → ℕ
field width z = unsigned_abs (int_rem_euclid z (pos (2 ^ width)))

-- each field at its place
abbrev pub r_word : ℕ → ℕ → ℕ → ℕ → ℕ → ℕ → ℕ
r_word o f3 f7 d a b = o + 2 ^ 7 * d + 2 ^ 12 * f3 + 2 ^ 15 * a + 2 ^ 20 * b + 2 ^ 25 * f7

abbrev pub i_word : ℕ → ℕ → ℕ → ℕ → ℤ → ℕ
i_word o f3 d a z = o + 2 ^ 7 * d + 2 ^ 12 * f3 + 2 ^ 15 * a + 2 ^ 20 * field 12 z

-- the low five bits of the immediate stand in the place of rd, the others in that of funct7
abbrev pub s_word : ℕ → ℕ → ℕ → ℕ → ℤ → ℕ
s_word o f3 a b z = r_word o f3 (bits (field 12 z) 5 7) (bits (field 12 z) 0 5) a b

-- likewise, with bit 11 in the place of bit 0, and bit 12 in that of bit 11
abbrev pub b_word : ℕ → ℕ → ℕ → ℕ → ℤ → ℕ
b_word o f3 a b z =
    let n = field 13 z in
    r_word o f3 (bits n 5 6 + 2 ^ 6 * bits n 12 1) (bits n 11 1 + 2 * bits n 1 4) a b

-- the number has twelve zeros where the opcode and rd stand
abbrev pub u_word : ℕ → ℕ → ℤ → ℕ
u_word o d z = o + 2 ^ 7 * d + field 32 z

abbrev pub j_word : ℕ → ℕ → ℤ → ℕ
j_word o d z =
    let n = field 21 z in
    o + 2 ^ 7 * d + 2 ^ 12 * bits n 12 8 + 2 ^ 20 * bits n 11 1 + 2 ^ 21 * bits n 1 10
    + 2 ^ 31 * bits n 20 1

-- each row's codes with the instruction's fields
abbrev pub encoded : Instr → ℕ
encoded (Lui d z) = u_word 0x37 d z
encoded (Auipc d z) = u_word 0x17 d z
encoded (Jal d z) = j_word 0x6F d z
encoded (Jalr d a z) = i_word 0x67 0 d a z
encoded (Beq a b z) = b_word 0x63 0 a b z
encoded (Bne a b z) = b_word 0x63 1 a b z
encoded (Blt a b z) = b_word 0x63 4 a b z
encoded (Bge a b z) = b_word 0x63 5 a b z
encoded (Bltu a b z) = b_word 0x63 6 a b z
encoded (Bgeu a b z) = b_word 0x63 7 a b z
encoded (Lb d a z) = i_word 0x03 0 d a z
encoded (Lh d a z) = i_word 0x03 1 d a z
encoded (Lw d a z) = i_word 0x03 2 d a z
encoded (Lbu d a z) = i_word 0x03 4 d a z
encoded (Lhu d a z) = i_word 0x03 5 d a z
encoded (Sb a b z) = s_word 0x23 0 a b z
encoded (Sh a b z) = s_word 0x23 1 a b z
encoded (Sw a b z) = s_word 0x23 2 a b z
encoded (Addi d a z) = i_word 0x13 0 d a z
encoded (Slti d a z) = i_word 0x13 2 d a z
encoded (Sltiu d a z) = i_word 0x13 3 d a z
encoded (Xori d a z) = i_word 0x13 4 d a z
encoded (Ori d a z) = i_word 0x13 6 d a z
encoded (Andi d a z) = i_word 0x13 7 d a z
encoded (Slli d a n) = r_word 0x13 1 0x00 d a n
encoded (Srli d a n) = r_word 0x13 5 0x00 d a n
encoded (Srai d a n) = r_word 0x13 5 0x20 d a n
encoded (Add d a b) = r_word 0x33 0 0x00 d a b
encoded (Sub d a b) = r_word 0x33 0 0x20 d a b
encoded (Sll d a b) = r_word 0x33 1 0x00 d a b
encoded (Slt d a b) = r_word 0x33 2 0x00 d a b
encoded (Sltu d a b) = r_word 0x33 3 0x00 d a b
encoded (Xor d a b) = r_word 0x33 4 0x00 d a b
encoded (Srl d a b) = r_word 0x33 5 0x00 d a b
encoded (Sra d a b) = r_word 0x33 5 0x20 d a b
encoded (Or d a b) = r_word 0x33 6 0x00 d a b
encoded (And d a b) = r_word 0x33 7 0x00 d a b
encoded (Fence d a z) = i_word 0x0F 0 d a z
encoded Ecall = 0x00000073
encoded Ebreak = 0x00100073
encoded (Mul d a b) = r_word 0x33 0 0x01 d a b
encoded (Mulh d a b) = r_word 0x33 1 0x01 d a b
encoded (Mulhsu d a b) = r_word 0x33 2 0x01 d a b
encoded (Mulhu d a b) = r_word 0x33 3 0x01 d a b
encoded (Div d a b) = r_word 0x33 4 0x01 d a b
encoded (Divu d a b) = r_word 0x33 5 0x01 d a b
encoded (Rem d a b) = r_word 0x33 6 0x01 d a b
encoded (Remu d a b) = r_word 0x33 7 0x01 d a b
