-- What the effects of instructions leave as it is.
use Rattle.std.proofs.Common.{◌≡◌, ℕ, ℤ, Bool, true, false, cond, Result, Ok, Err, refl}
use Rattle.rv_decode.specs.declared.Instr.{Instr}
use Rattle.rv_decode.specs.declared.Instr.TheVariants.{Jal, Jalr, Beq, Bne, Blt, Bge, Bltu, Bgeu, Lb, Lh, Lw, Lbu, Lhu, Sb, Sh, Sw, Ecall}
use Rattle.rv_core.specs.Execute.{Effect, Completes, Stores, Calls, Faults, effect, jumps, goes_to, branches, loads_by, stores_by, hart_after, bus_after}
use Rattle.rv_core.specs.Execute.{out_of, Stored}
use Rattle.rv_core.specs.Memory.{Memory}
use Rattle.rv_core.specs.Hart.{HartState, advanced}
use Rattle.rv_core.specs.declared.bus.Cause.{Cause}
use Rattle.rv_core.specs.declared.execute.Out.TheVariants.{Call, Fault}

-- an instruction that completes where a test holds, and faults elsewhere
either : {B : Type 0} (f : B → (a n value : ℕ) → B) (bus : B) (test : Bool) (after : HartState) (cause : Cause)
    → bus_after f (cond test (Completes after) (Faults cause)) bus ≡ bus
either f bus true after cause = refl
either f bus false after cause = refl

pub jumps_keep : {B : Type 0} (f : B → (a n value : ℕ) → B) (h : HartState) (rd target : ℕ) (bus : B) → bus_after f (jumps h rd target) bus ≡ bus
unfolding jumps
jumps_keep f h rd target bus = either f bus _ _ _

pub branches_keep : {B : Type 0} (f : B → (a n value : ℕ) → B) (h : HartState) (taken : Bool) (imm : ℤ) (bus : B) → bus_after f (branches h taken imm) bus ≡ bus
unfolding branches goes_to
branches_keep f h true imm bus = either f bus _ _ _
branches_keep f h false imm bus = refl

neither : (old new : Memory) (test : Bool) (after : HartState) (cause : Cause) → Stored (cond test (Completes after) (Faults cause)) old new
neither old new true after cause = tt
neither old new false after cause = tt

pub jumps_store_nothing : (h : HartState) (rd target : ℕ) (old new : Memory) → Stored (jumps h rd target) old new
unfolding jumps
jumps_store_nothing h rd target old new = neither old new _ _ _

pub branches_store_nothing : (h : HartState) (taken : Bool) (imm : ℤ) (old new : Memory) → Stored (branches h taken imm) old new
unfolding branches goes_to
branches_store_nothing h true imm old new = neither old new _ _ _
branches_store_nothing h false imm old new = tt

pub ruleset keeps_the_bus = (jumps_keep, branches_keep, jumps_store_nothing, branches_store_nothing)

-- a call goes to the next instruction, and a fault changes nothing
either_call : (h after : HartState) (test : Bool) (cause : Cause) → out_of (cond test (Completes after) (Faults cause)) ≡ Call
    → hart_after (cond test (Completes after) (Faults cause)) h ≡ advanced h
either_call h after true cause is = cc
either_call h after false cause is = cc

jumps_call : (h : HartState) (rd target : ℕ) → out_of (jumps h rd target) ≡ Call → hart_after (jumps h rd target) h ≡ advanced h
unfolding jumps
jumps_call h rd target is = either_call h _ _ _ is

branches_call : (h : HartState) (taken : Bool) (imm : ℤ) → out_of (branches h taken imm) ≡ Call → hart_after (branches h taken imm) h ≡ advanced h
unfolding branches goes_to
branches_call h true imm is = either_call h _ _ _ is
branches_call h false imm is = cc

loads_call : (h : HartState) (rd : ℕ) (extend : ℕ → ℕ) (r : Result ℕ Cause) → out_of (loads_by h rd extend r) ≡ Call
    → hart_after (loads_by h rd extend r) h ≡ advanced h
loads_call h rd extend (Ok value) is = cc
loads_call h rd extend (Err cause) is = cc

stores_call : (h : HartState) (a n value : ℕ) (r : Result (Unit {0}) Cause) → out_of (stores_by h a n value r) ≡ Call
    → hart_after (stores_by h a n value r) h ≡ advanced h
stores_call h a n value (Ok done) is = cc
stores_call h a n value (Err cause) is = cc

pub effect_call : (i : Instr) (m : Memory) (h : HartState) → out_of (effect i m h) ≡ Call → hart_after (effect i m h) h ≡ advanced h
effect_call (Jal rd imm) m h is = jumps_call h rd _ is
effect_call (Jalr rd rs1 imm) m h is = jumps_call h rd _ is
effect_call (Beq rs1 rs2 imm) m h is = branches_call h _ imm is
effect_call (Bne rs1 rs2 imm) m h is = branches_call h _ imm is
effect_call (Blt rs1 rs2 imm) m h is = branches_call h _ imm is
effect_call (Bge rs1 rs2 imm) m h is = branches_call h _ imm is
effect_call (Bltu rs1 rs2 imm) m h is = branches_call h _ imm is
effect_call (Bgeu rs1 rs2 imm) m h is = branches_call h _ imm is
effect_call (Lb rd rs1 imm) m h is = loads_call h rd _ _ is
effect_call (Lh rd rs1 imm) m h is = loads_call h rd _ _ is
effect_call (Lw rd rs1 imm) m h is = loads_call h rd _ _ is
effect_call (Lbu rd rs1 imm) m h is = loads_call h rd _ _ is
effect_call (Lhu rd rs1 imm) m h is = loads_call h rd _ _ is
effect_call (Sb rs1 rs2 imm) m h is = stores_call h _ 1 _ _ is
effect_call (Sh rs1 rs2 imm) m h is = stores_call h _ 2 _ _ is
effect_call (Sw rs1 rs2 imm) m h is = stores_call h _ 4 _ _ is
effect_call Ecall m h is = refl
effect_call i m h is = cc

pub effect_fault : {B : Type 0} (store : B → (a n value : ℕ) → B) (e : Effect) (h : HartState) (bus : B) (cause : Cause) → out_of e ≡ Fault cause
    → (hart_after e h ≡ h) × (bus_after store e bus ≡ bus)
effect_fault store (Completes after) h bus cause is = cc
effect_fault store (Stores a n value after) h bus cause is = cc
effect_fault store (Calls after) h bus cause is = cc
effect_fault store (Faults c) h bus cause is = (refl, refl)
