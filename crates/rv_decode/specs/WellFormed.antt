-- Which instructions a word can hold: registers of five bits, and the amounts and immediates that
-- each format gives.
use Rattle.std.specs.Prelude.{ℕ, ℤ, pos, neg_ℤ, ◌≡◌, ◌-◌, ◌^◌, ◌<◌, ◌≤ℤ◌, ◌<ℤ◌}
use Rattle.std.specs.Int.{int_rem_euclid}
use Rattle.rv_decode.specs.declared.Instr.{Instr}
use Rattle.rv_decode.specs.declared.Instr.TheVariants.{Lui, Auipc, Jal, Jalr, Beq, Bne, Blt, Bge}
use Rattle.rv_decode.specs.declared.Instr.TheVariants.{Bltu, Bgeu, Lb, Lh, Lw, Lbu, Lhu, Sb, Sh, Sw}
use Rattle.rv_decode.specs.declared.Instr.TheVariants.{Addi, Slti, Sltiu, Xori, Ori, Andi, Slli}
use Rattle.rv_decode.specs.declared.Instr.TheVariants.{Srli, Srai, Add, Sub, Sll, Slt, Sltu, Xor}
use Rattle.rv_decode.specs.declared.Instr.TheVariants.{Srl, Sra, Or, And, Fence, Ecall, Ebreak, Mul}
use Rattle.rv_decode.specs.declared.Instr.TheVariants.{Mulh, Mulhsu, Mulhu, Div, Divu, Rem, Remu}

-- x0 to x31
abbrev pub IsRegister : ℕ → Type 0
IsRegister r = r < 32

-- by less than the width of a register
abbrev pub IsAmount : ℕ → Type 0
IsAmount n = n < 32

-- a signed number of the given number of bits that the step divides
pub record IsImmediate (width step : ℕ) (z : ℤ) : Type 0 where
  pub low : neg_ℤ (pos (2 ^ (width - 1))) ≤ℤ z
  pub high : z <ℤ pos (2 ^ (width - 1))
  pub divided : int_rem_euclid z (pos step) ≡ pos 0

-- the fields of each format
abbrev pub FitsR : ℕ → ℕ → ℕ → Type 0
FitsR d a b = IsRegister d × IsRegister a × IsRegister b

abbrev pub FitsShift : ℕ → ℕ → ℕ → Type 0
FitsShift d a n = IsRegister d × IsRegister a × IsAmount n

abbrev pub FitsI : ℕ → ℕ → ℤ → Type 0
FitsI d a z = IsRegister d × IsRegister a × IsImmediate 12 1 z

abbrev pub FitsS : ℕ → ℕ → ℤ → Type 0
FitsS a b z = IsRegister a × IsRegister b × IsImmediate 12 1 z

abbrev pub FitsB : ℕ → ℕ → ℤ → Type 0
FitsB a b z = IsRegister a × IsRegister b × IsImmediate 13 2 z

abbrev pub FitsU : ℕ → ℤ → Type 0
FitsU d z = IsRegister d × IsImmediate 32 4096 z

abbrev pub FitsJ : ℕ → ℤ → Type 0
FitsJ d z = IsRegister d × IsImmediate 21 2 z

-- an instruction that has a word
abbrev pub IsWellFormed : Instr → Type 0
IsWellFormed (Lui d z) = FitsU d z
IsWellFormed (Auipc d z) = FitsU d z
IsWellFormed (Jal d z) = FitsJ d z
IsWellFormed (Jalr d a z) = FitsI d a z
IsWellFormed (Beq a b z) = FitsB a b z
IsWellFormed (Bne a b z) = FitsB a b z
IsWellFormed (Blt a b z) = FitsB a b z
IsWellFormed (Bge a b z) = FitsB a b z
IsWellFormed (Bltu a b z) = FitsB a b z
IsWellFormed (Bgeu a b z) = FitsB a b z
IsWellFormed (Lb d a z) = FitsI d a z
IsWellFormed (Lh d a z) = FitsI d a z
IsWellFormed (Lw d a z) = FitsI d a z
IsWellFormed (Lbu d a z) = FitsI d a z
IsWellFormed (Lhu d a z) = FitsI d a z
IsWellFormed (Sb a b z) = FitsS a b z
IsWellFormed (Sh a b z) = FitsS a b z
IsWellFormed (Sw a b z) = FitsS a b z
IsWellFormed (Addi d a z) = FitsI d a z
IsWellFormed (Slti d a z) = FitsI d a z
IsWellFormed (Sltiu d a z) = FitsI d a z
IsWellFormed (Xori d a z) = FitsI d a z
IsWellFormed (Ori d a z) = FitsI d a z
IsWellFormed (Andi d a z) = FitsI d a z
IsWellFormed (Slli d a n) = FitsShift d a n
IsWellFormed (Srli d a n) = FitsShift d a n
IsWellFormed (Srai d a n) = FitsShift d a n
IsWellFormed (Add d a b) = FitsR d a b
IsWellFormed (Sub d a b) = FitsR d a b
IsWellFormed (Sll d a b) = FitsR d a b
IsWellFormed (Slt d a b) = FitsR d a b
IsWellFormed (Sltu d a b) = FitsR d a b
IsWellFormed (Xor d a b) = FitsR d a b
IsWellFormed (Srl d a b) = FitsR d a b
IsWellFormed (Sra d a b) = FitsR d a b
IsWellFormed (Or d a b) = FitsR d a b
IsWellFormed (And d a b) = FitsR d a b
IsWellFormed (Fence d a z) = FitsI d a z
IsWellFormed Ecall = Unit {0}
IsWellFormed Ebreak = Unit {0}
IsWellFormed (Mul d a b) = FitsR d a b
IsWellFormed (Mulh d a b) = FitsR d a b
IsWellFormed (Mulhsu d a b) = FitsR d a b
IsWellFormed (Mulhu d a b) = FitsR d a b
IsWellFormed (Div d a b) = FitsR d a b
IsWellFormed (Divu d a b) = FitsR d a b
IsWellFormed (Rem d a b) = FitsR d a b
IsWellFormed (Remu d a b) = FitsR d a b
