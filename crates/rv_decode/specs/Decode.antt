-- The instruction table: one row an instruction, in the manual's order, and what a word decodes to.
use Rattle.std.specs.Prelude.{ℕ, ℤ, ◌==◌, ◌&&◌, Bool, true, List, [], ◌∷◌, Option, find}
use Rattle.std.specs.Option.{option_map}
use Rattle.rv_decode.specs.Fields.{opcode, rd, funct3, rs1, rs2, funct7, amount, i_immediate}
use Rattle.rv_decode.specs.Fields.{s_immediate, b_immediate, u_immediate, j_immediate}
use Rattle.rv_decode.specs.declared.Instr.{Instr}
use Rattle.rv_decode.specs.declared.Instr.TheVariants.{Lui, Auipc, Jal, Jalr, Beq, Bne, Blt, Bge}
use Rattle.rv_decode.specs.declared.Instr.TheVariants.{Bltu, Bgeu, Lb, Lh, Lw, Lbu, Lhu, Sb, Sh, Sw}
use Rattle.rv_decode.specs.declared.Instr.TheVariants.{Addi, Slti, Sltiu, Xori, Ori, Andi, Slli}
use Rattle.rv_decode.specs.declared.Instr.TheVariants.{Srli, Srai, Add, Sub, Sll, Slt, Sltu, Xor}
use Rattle.rv_decode.specs.declared.Instr.TheVariants.{Srl, Sra, Or, And, Fence, Ecall, Ebreak, Mul}
use Rattle.rv_decode.specs.declared.Instr.TheVariants.{Mulh, Mulhsu, Mulhu, Div, Divu, Rem, Remu}

-- which words of its opcode a row takes: each, those with its function codes, or one word alone
pub data Codes : Type 0 where
  Any : Codes
  Funct3 : (funct3 : ℕ) → Codes
  Funct7 : (funct3 funct7 : ℕ) → Codes
  Word : (word : ℕ) → Codes

abbrev pub has_codes : Codes → ℕ → Bool
has_codes Any w = true
has_codes (Funct3 f3) w = funct3 w == f3
has_codes (Funct7 f3 f7) w = (funct3 w == f3) && (funct7 w == f7)
has_codes (Word word) w = w == word

-- a row: the words that it takes, and the instruction that such a word is
pub record Row : Type 0 where
  pub opcode : ℕ
  pub codes : Codes
  pub instruction : ℕ → Instr

-- a row takes the words with its opcode and its codes
abbrev pub takes : Row → ℕ → Bool
takes row w = (opcode w == row.opcode) && has_codes row.codes w

-- the rows of each format: its codes, and the fields that it gives
abbrev pub u_type : ℕ → (ℕ → ℤ → Instr) → Row
u_type o make = record { opcode = o; codes = Any; instruction = λ w. make (rd w) (u_immediate w) }

abbrev pub j_type : ℕ → (ℕ → ℤ → Instr) → Row
j_type o make = record { opcode = o; codes = Any; instruction = λ w. make (rd w) (j_immediate w) }

abbrev pub i_type : ℕ → ℕ → (ℕ → ℕ → ℤ → Instr) → Row
i_type o f3 make = record {
  opcode = o;
  codes = Funct3 f3;
  instruction = λ w. make (rd w) (rs1 w) (i_immediate w);
}

abbrev pub s_type : ℕ → ℕ → (ℕ → ℕ → ℤ → Instr) → Row
s_type o f3 make = record {
  opcode = o;
  codes = Funct3 f3;
  instruction = λ w. make (rs1 w) (rs2 w) (s_immediate w);
}

abbrev pub b_type : ℕ → ℕ → (ℕ → ℕ → ℤ → Instr) → Row
b_type o f3 make = record {
  opcode = o;
  codes = Funct3 f3;
  instruction = λ w. make (rs1 w) (rs2 w) (b_immediate w);
}

abbrev pub r_type : ℕ → ℕ → ℕ → (ℕ → ℕ → ℕ → Instr) → Row
r_type o f3 f7 make = record {
  opcode = o;
  codes = Funct7 f3 f7;
  instruction = λ w. make (rd w) (rs1 w) (rs2 w);
}

-- a shift by a constant, whose amount stands in the place of rs2
abbrev pub shift_type : ℕ → ℕ → ℕ → (ℕ → ℕ → ℕ → Instr) → Row
shift_type o f3 f7 make = record {
  opcode = o;
  codes = Funct7 f3 f7;
  instruction = λ w. make (rd w) (rs1 w) (amount w);
}

-- a row of one word
abbrev pub exactly : ℕ → ℕ → Instr → Row
exactly o word i = record { opcode = o; codes = Word word; instruction = λ _. i }

-- RV32I, then the M extension
abbrev pub table : List Row
table =
    u_type 0x37 Lui
    ∷ u_type 0x17 Auipc
    ∷ j_type 0x6F Jal
    ∷ i_type 0x67 0 Jalr
    ∷ b_type 0x63 0 Beq
    ∷ b_type 0x63 1 Bne
    ∷ b_type 0x63 4 Blt
    ∷ b_type 0x63 5 Bge
    ∷ b_type 0x63 6 Bltu
    ∷ b_type 0x63 7 Bgeu
    ∷ i_type 0x03 0 Lb
    ∷ i_type 0x03 1 Lh
    ∷ i_type 0x03 2 Lw
    ∷ i_type 0x03 4 Lbu
    ∷ i_type 0x03 5 Lhu
    ∷ s_type 0x23 0 Sb
    ∷ s_type 0x23 1 Sh
    ∷ s_type 0x23 2 Sw
    ∷ i_type 0x13 0 Addi
    ∷ i_type 0x13 2 Slti
    ∷ i_type 0x13 3 Sltiu
    ∷ i_type 0x13 4 Xori
    ∷ i_type 0x13 6 Ori
    ∷ i_type 0x13 7 Andi
    ∷ shift_type 0x13 1 0x00 Slli
    ∷ shift_type 0x13 5 0x00 Srli
    ∷ shift_type 0x13 5 0x20 Srai
    ∷ r_type 0x33 0 0x00 Add
    ∷ r_type 0x33 0 0x20 Sub
    ∷ r_type 0x33 1 0x00 Sll
    ∷ r_type 0x33 2 0x00 Slt
    ∷ r_type 0x33 3 0x00 Sltu
    ∷ r_type 0x33 4 0x00 Xor
    ∷ r_type 0x33 5 0x00 Srl
    ∷ r_type 0x33 5 0x20 Sra
    ∷ r_type 0x33 6 0x00 Or
    ∷ r_type 0x33 7 0x00 And
    ∷ i_type 0x0F 0 Fence
    ∷ exactly 0x73 0x00000073 Ecall
    ∷ exactly 0x73 0x00100073 Ebreak
    ∷ r_type 0x33 0 0x01 Mul
    ∷ r_type 0x33 1 0x01 Mulh
    ∷ r_type 0x33 2 0x01 Mulhsu
    ∷ r_type 0x33 3 0x01 Mulhu
    ∷ r_type 0x33 4 0x01 Div
    ∷ r_type 0x33 5 0x01 Divu
    ∷ r_type 0x33 6 0x01 Rem
    ∷ r_type 0x33 7 0x01 Remu
    ∷ []

-- the instruction of a word: that of the row that takes it
unfoldable pub decoded : ℕ → Option Instr
decoded w = option_map (λ row. row.instruction w) (find (λ row. takes row w) table)
