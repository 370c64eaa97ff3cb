-- One instruction: what it does to a hart and to memory (RISC-V Unprivileged ISA Manual, RV32I and
-- the M extension).
use Rattle.std.specs.Prelude.{ℕ, ℤ, pos, ◌+◌, ◌*◌, ◌/◌, ◌%◌, ◌^◌, ◌+ℤ◌, ◌*ℤ◌, ◌==◌, nat_lt, nat_le}
use Rattle.std.specs.Prelude.{bit_and, bit_or, bit_xor, Bool, not, Option, None, Some, Result, Ok}
use Rattle.std.specs.Prelude.{Err, if◌then◌else◌}
use Rattle.std.specs.Int.RustNames.{int_lt}
use Rattle.machine_words.specs.Bits.{signed, word_of}
use Rattle.rv_decode.specs.Decode.{decoded}
use Rattle.rv_decode.specs.declared.Instr.{Instr}
use Rattle.rv_decode.specs.declared.Instr.TheVariants.{Lui, Auipc, Jal, Jalr, Beq, Bne, Blt, Bge}
use Rattle.rv_decode.specs.declared.Instr.TheVariants.{Bltu, Bgeu, Lb, Lh, Lw, Lbu, Lhu, Sb, Sh, Sw}
use Rattle.rv_decode.specs.declared.Instr.TheVariants.{Addi, Slti, Sltiu, Xori, Ori, Andi, Slli}
use Rattle.rv_decode.specs.declared.Instr.TheVariants.{Srli, Srai, Add, Sub, Sll, Slt, Sltu, Xor}
use Rattle.rv_decode.specs.declared.Instr.TheVariants.{Srl, Sra, Or, And, Fence, Ecall, Ebreak, Mul}
use Rattle.rv_decode.specs.declared.Instr.TheVariants.{Mulh, Mulhsu, Mulhu, Div, Divu, Rem, Remu}
use Rattle.rv_core.specs.Arithmetic.{int, flag, sum, difference, shifted_left, shifted_right}
use Rattle.rv_core.specs.Arithmetic.{shifted_right_signed, less_signed, product_low, high_word}
use Rattle.rv_core.specs.Arithmetic.{quotient, remainder, quotient_unsigned, remainder_unsigned}
use Rattle.rv_core.specs.Hart.{HartState, register, with_register, advanced}
use Rattle.rv_core.specs.Memory.{Memory, IsStored, fetch_answer, load_answer, store_answer}
use Rattle.rv_core.specs.declared.bus.Cause.{Cause}
use Rattle.rv_core.specs.declared.bus.Cause.TheVariants.{FetchMisaligned, Illegal, Breakpoint}
use Rattle.rv_core.specs.declared.execute.Out.{Out}
use Rattle.rv_core.specs.declared.execute.Out.TheVariants.{Done, Call, Fault}

-- what a step comes to: the instruction completed, with the low bytes of a value put at an address
-- or without; it is a call; or it can't be executed
pub data Effect : Type 0 where
  Completes : (after : HartState) → Effect
  Stores : (a n value : ℕ) → (after : HartState) → Effect
  Calls : (after : HartState) → Effect
  Faults : (cause : Cause) → Effect

-- a register is written, and the next instruction follows
abbrev pub writes : HartState → ℕ → ℕ → Effect
writes h rd value = Completes (advanced (with_register h rd value))

-- an instruction goes to a target, which 4 must divide
unfoldable pub goes_to : HartState → ℕ → Effect
goes_to h target =
    if target % 4 == 0 then Completes (record h { pc = target }) else Faults FetchMisaligned

-- a jump writes the address of the instruction after it
unfoldable pub jumps : HartState → ℕ → ℕ → Effect
jumps h rd target =
    if target % 4 == 0
    then Completes (record (with_register h rd ((h.pc + 4) % 2 ^ 32)) { pc = target })
    else Faults FetchMisaligned

unfoldable pub branches : HartState → Bool → ℤ → Effect
branches h taken imm =
    if taken then goes_to h (word_of (pos h.pc +ℤ imm)) else Completes (advanced h)

-- the address that a register and an immediate give
abbrev pub address : HartState → ℕ → ℤ → ℕ
address h rs1 imm = word_of (pos (register h rs1) +ℤ imm)

-- the low n bytes of a number, sign-extended
unfoldable pub sign_extended : ℕ → ℕ → ℕ
sign_extended n value = word_of (signed (8 * n) (value % 2 ^ (8 * n)))

-- a load of n bytes, and what becomes of them
abbrev pub loads_by : HartState → ℕ → (ℕ → ℕ) → Result ℕ Cause → Effect
loads_by h rd extend (Ok value) = writes h rd (extend value)
loads_by h rd extend (Err cause) = Faults cause

abbrev pub loads : Memory → HartState → (rd a n : ℕ) → (ℕ → ℕ) → Effect
loads m h rd a n extend = loads_by h rd extend (load_answer m a n)

abbrev pub loads_signed : Memory → HartState → (rd a n : ℕ) → Effect
loads_signed m h rd a n = loads m h rd a n (sign_extended n)

abbrev pub loads_unsigned : Memory → HartState → (rd a n : ℕ) → Effect
loads_unsigned m h rd a n = loads m h rd a n (λ value. value)

-- a store of the low n bytes of a value
abbrev pub stores_by : HartState → (a n value : ℕ) → Result (Unit {0}) Cause → Effect
stores_by h a n value (Ok _) = Stores a n value (advanced h)
stores_by h a n value (Err cause) = Faults cause

abbrev pub stores : Memory → HartState → (a n value : ℕ) → Effect
stores m h a n value = stores_by h a n value (store_answer m a n)

-- the effect of each instruction
abbrev pub effect : Instr → Memory → HartState → Effect
effect (Lui rd imm) m h = writes h rd (word_of imm)
effect (Auipc rd imm) m h = writes h rd (word_of (pos h.pc +ℤ imm))
effect (Jal rd imm) m h = jumps h rd (word_of (pos h.pc +ℤ imm))
effect (Jalr rd rs1 imm) m h = jumps h rd (address h rs1 imm / 2 * 2)
effect (Beq rs1 rs2 imm) m h = branches h (register h rs1 == register h rs2) imm
effect (Bne rs1 rs2 imm) m h = branches h (not (register h rs1 == register h rs2)) imm
effect (Blt rs1 rs2 imm) m h = branches h (less_signed (register h rs1) (register h rs2)) imm
effect (Bge rs1 rs2 imm) m h = branches h (not (less_signed (register h rs1) (register h rs2))) imm
effect (Bltu rs1 rs2 imm) m h = branches h (nat_lt (register h rs1) (register h rs2)) imm
effect (Bgeu rs1 rs2 imm) m h = branches h (nat_le (register h rs2) (register h rs1)) imm
effect (Lb rd rs1 imm) m h = loads_signed m h rd (address h rs1 imm) 1
effect (Lh rd rs1 imm) m h = loads_signed m h rd (address h rs1 imm) 2
effect (Lw rd rs1 imm) m h = loads_unsigned m h rd (address h rs1 imm) 4
effect (Lbu rd rs1 imm) m h = loads_unsigned m h rd (address h rs1 imm) 1
effect (Lhu rd rs1 imm) m h = loads_unsigned m h rd (address h rs1 imm) 2
effect (Sb rs1 rs2 imm) m h = stores m h (address h rs1 imm) 1 (register h rs2)
effect (Sh rs1 rs2 imm) m h = stores m h (address h rs1 imm) 2 (register h rs2)
effect (Sw rs1 rs2 imm) m h = stores m h (address h rs1 imm) 4 (register h rs2)
effect (Addi rd rs1 imm) m h = writes h rd (address h rs1 imm)
effect (Slti rd rs1 imm) m h = writes h rd (flag (int_lt (int (register h rs1)) imm))
effect (Sltiu rd rs1 imm) m h = writes h rd (flag (nat_lt (register h rs1) (word_of imm)))
effect (Xori rd rs1 imm) m h = writes h rd (bit_xor (register h rs1) (word_of imm))
effect (Ori rd rs1 imm) m h = writes h rd (bit_or (register h rs1) (word_of imm))
effect (Andi rd rs1 imm) m h = writes h rd (bit_and (register h rs1) (word_of imm))
effect (Slli rd rs1 amount) m h = writes h rd (shifted_left (register h rs1) amount)
effect (Srli rd rs1 amount) m h = writes h rd (shifted_right (register h rs1) amount)
effect (Srai rd rs1 amount) m h = writes h rd (shifted_right_signed (register h rs1) amount)
effect (Add rd rs1 rs2) m h = writes h rd (sum (register h rs1) (register h rs2))
effect (Sub rd rs1 rs2) m h = writes h rd (difference (register h rs1) (register h rs2))
effect (Sll rd rs1 rs2) m h = writes h rd (shifted_left (register h rs1) (register h rs2))
effect (Slt rd rs1 rs2) m h = writes h rd (flag (less_signed (register h rs1) (register h rs2)))
effect (Sltu rd rs1 rs2) m h = writes h rd (flag (nat_lt (register h rs1) (register h rs2)))
effect (Xor rd rs1 rs2) m h = writes h rd (bit_xor (register h rs1) (register h rs2))
effect (Srl rd rs1 rs2) m h = writes h rd (shifted_right (register h rs1) (register h rs2))
effect (Sra rd rs1 rs2) m h = writes h rd (shifted_right_signed (register h rs1) (register h rs2))
effect (Or rd rs1 rs2) m h = writes h rd (bit_or (register h rs1) (register h rs2))
effect (And rd rs1 rs2) m h = writes h rd (bit_and (register h rs1) (register h rs2))
effect (Fence rd rs1 imm) m h = Completes (advanced h)
effect Ecall m h = Calls (advanced h)
effect Ebreak m h = Faults Breakpoint
effect (Mul rd rs1 rs2) m h = writes h rd (product_low (register h rs1) (register h rs2))
effect (Mulh rd rs1 rs2) m h =
    writes h rd (high_word (int (register h rs1) *ℤ int (register h rs2)))
effect (Mulhsu rd rs1 rs2) m h =
    writes h rd (high_word (int (register h rs1) *ℤ pos (register h rs2)))
effect (Mulhu rd rs1 rs2) m h = writes h rd (register h rs1 * register h rs2 / 2 ^ 32)
effect (Div rd rs1 rs2) m h = writes h rd (quotient (register h rs1) (register h rs2))
effect (Divu rd rs1 rs2) m h = writes h rd (quotient_unsigned (register h rs1) (register h rs2))
effect (Rem rd rs1 rs2) m h = writes h rd (remainder (register h rs1) (register h rs2))
effect (Remu rd rs1 rs2) m h = writes h rd (remainder_unsigned (register h rs1) (register h rs2))

-- a word without a row is illegal
abbrev pub effect_of_decoded : Option Instr → Memory → HartState → Effect
effect_of_decoded None m h = Faults Illegal
effect_of_decoded (Some i) m h = effect i m h

abbrev pub effect_of_fetched : Result ℕ Cause → Memory → HartState → Effect
effect_of_fetched (Ok word) m h = effect_of_decoded (decoded word) m h
effect_of_fetched (Err cause) m h = Faults cause

-- the effect of the step from a hart
unfoldable pub executed : Memory → HartState → Effect
executed m h = effect_of_fetched (fetch_answer m h.pc) m h

-- the hart afterwards: a fault changes nothing
abbrev pub hart_after : Effect → HartState → HartState
hart_after (Completes h) before = h
hart_after (Stores a n value h) before = h
hart_after (Calls h) before = h
hart_after (Faults cause) before = before

-- the bus afterwards, by what a store makes of it
abbrev pub bus_after : {B : Type 0} → (B → (a n value : ℕ) → B) → Effect → B → B
bus_after after_store (Completes h) bus = bus
bus_after after_store (Stores a n value h) bus = after_store bus a n value
bus_after after_store (Calls h) bus = bus
bus_after after_store (Faults cause) bus = bus

-- a store puts its bytes, and nothing else changes in memory
abbrev pub Stored : Effect → (old new : Memory) → Type 0
Stored (Completes h) old new = Unit {0}
Stored (Stores a n value h) old new = IsStored old new a n value
Stored (Calls h) old new = Unit {0}
Stored (Faults cause) old new = Unit {0}

-- how the step ends
abbrev pub out_of : Effect → Out
out_of (Completes h) = Done
out_of (Stores a n value h) = Done
out_of (Calls h) = Call
out_of (Faults cause) = Fault cause
