-- An instruction stores only what it may.
use Rattle.std.proofs.Common.{◌≡◌, ℕ, ℤ, ◌%◌, ◌==◌, ◌<◌, Bool, true, false, cond, Option, None, Some, Result, Ok, Err, arith}
use Rattle.std.proofs.lemmas.Bool.{cond_both}
use Rattle.rv_decode.specs.Decode.{decoded}
use Rattle.rv_decode.specs.declared.Instr.{Instr}
use Rattle.rv_decode.specs.declared.Instr.TheVariants.{Jal, Jalr, Beq, Bne, Blt, Bge, Bltu, Bgeu, Lb, Lh, Lw, Lbu, Lhu, Sb, Sh, Sw}
use Rattle.rv_core.specs.Execute.{Effect, Completes, Stores, Calls, Faults, effect, effect_of_decoded, effect_of_fetched, executed, jumps, goes_to, branches}
use Rattle.rv_core.specs.Execute.{loads_by, stores, stores_by}
use Rattle.rv_core.specs.Memory.{Memory, fetch_answer}
use Rattle.rv_core.specs.Hart.{HartState}
use Rattle.rv_core.specs.declared.bus.Cause.{Cause}
use Rattle.rv_core.specs.declared.bus.Cause.TheVariants.{StoreMisaligned, StoreOutside}

-- what is stored is a range with an address, and may be stored
abbrev pub IsAllowed : Memory → Effect → Type 0
IsAllowed m (Completes h) = Unit {0}
IsAllowed m (Stores a n value h) = (0 < n) × (m.stores a n ≡ true)
IsAllowed m (Calls h) = Unit {0}
IsAllowed m (Faults cause) = Unit {0}

-- an instruction that completes where a test holds, and faults elsewhere
either : (m : Memory) (test : Bool) (after : HartState) (cause : Cause) → IsAllowed m (cond test (Completes after) (Faults cause))
either m true after cause = tt
either m false after cause = tt

jumps_allowed : (m : Memory) (h : HartState) (rd target : ℕ) → IsAllowed m (jumps h rd target)
unfolding jumps
jumps_allowed m h rd target = either m _ _ _

branches_allowed : (m : Memory) (h : HartState) (taken : Bool) (imm : ℤ) → IsAllowed m (branches h taken imm)
unfolding branches goes_to
branches_allowed m h true imm = either m _ _ _
branches_allowed m h false imm = tt

loads_allowed : (m : Memory) (h : HartState) (rd : ℕ) (extend : ℕ → ℕ) (r : Result ℕ Cause) → IsAllowed m (loads_by h rd extend r)
loads_allowed m h rd extend (Ok value) = tt
loads_allowed m h rd extend (Err cause) = tt

stores_allowed : (m : Memory) (h : HartState) (a n value : ℕ) → 0 < n → IsAllowed m (stores m h a n value)
stores_allowed m h a n value some =
    let P = λ (r : Result (Unit {0}) Cause). IsAllowed m (stores_by h a n value r) in
    cond_both (a % n == 0) _ (Err StoreMisaligned) P
    (λ aligned. cond_both (m.stores a n) (Ok tt) (Err StoreOutside) P (λ yes. (some, yes)) (λ no. tt))
    (λ odd. tt)

effect_allowed : (i : Instr) (m : Memory) (h : HartState) → IsAllowed m (effect i m h)
effect_allowed (Jal rd imm) m h = jumps_allowed m h rd _
effect_allowed (Jalr rd rs1 imm) m h = jumps_allowed m h rd _
effect_allowed (Beq rs1 rs2 imm) m h = branches_allowed m h _ imm
effect_allowed (Bne rs1 rs2 imm) m h = branches_allowed m h _ imm
effect_allowed (Blt rs1 rs2 imm) m h = branches_allowed m h _ imm
effect_allowed (Bge rs1 rs2 imm) m h = branches_allowed m h _ imm
effect_allowed (Bltu rs1 rs2 imm) m h = branches_allowed m h _ imm
effect_allowed (Bgeu rs1 rs2 imm) m h = branches_allowed m h _ imm
effect_allowed (Lb rd rs1 imm) m h = loads_allowed m h rd _ _
effect_allowed (Lh rd rs1 imm) m h = loads_allowed m h rd _ _
effect_allowed (Lw rd rs1 imm) m h = loads_allowed m h rd _ _
effect_allowed (Lbu rd rs1 imm) m h = loads_allowed m h rd _ _
effect_allowed (Lhu rd rs1 imm) m h = loads_allowed m h rd _ _
effect_allowed (Sb rs1 rs2 imm) m h = stores_allowed m h _ 1 _ (omega arith)
effect_allowed (Sh rs1 rs2 imm) m h = stores_allowed m h _ 2 _ (omega arith)
effect_allowed (Sw rs1 rs2 imm) m h = stores_allowed m h _ 4 _ (omega arith)
effect_allowed i m h = tt

decoded_allowed : (i : Option Instr) (m : Memory) (h : HartState) → IsAllowed m (effect_of_decoded i m h)
decoded_allowed None m h = tt
decoded_allowed (Some i) m h = effect_allowed i m h

fetched_allowed : (r : Result ℕ Cause) (m : Memory) (h : HartState) → IsAllowed m (effect_of_fetched r m h)
fetched_allowed (Ok word) m h = decoded_allowed (decoded word) m h
fetched_allowed (Err cause) m h = tt

pub executed_allowed : (m : Memory) (h : HartState) → IsAllowed m (executed m h)
unfolding executed
executed_allowed m h = fetched_allowed (fetch_answer m h.pc) m h
