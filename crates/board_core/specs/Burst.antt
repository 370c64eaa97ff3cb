-- Many steps in a row: code of a module runs for as long as its instructions complete, and a thread
-- runs up to its next call or fault.
use Rattle.std.specs.Prelude.{ℕ, zero, suc, ◌+◌, ◌-◌, ◌%◌, ◌^◌, Option, None, Some}
use Rattle.kernel_state.specs.Kernel.{thread, module_of}
use Rattle.region_guard.specs.Memory.{Memory, with_number}
use Rattle.rv_core.specs.Execute.{Effect, Completes, Stores, Calls, Faults, executed, hart_after}
use Rattle.rv_core.specs.Execute.{out_of}
use Rattle.rv_core.specs.Hart.{HartState}
use Rattle.rv_core.specs.declared.execute.Out.{Out}
use Rattle.rv_core.specs.declared.execute.Out.TheVariants.{Done}
use Rattle.board_core.specs.Bus.{seen}
use Rattle.board_core.specs.Step.{after_effect, ran_on}
use Rattle.board_core.specs.declared.parts.Parts.{Parts}

-- how many instructions completed, the registers and the memory then, and what the next instruction
-- does where that is not to complete
pub record Burst : Type 0 where
  pub done : ℕ
  pub hart : HartState
  pub memory : Memory
  pub end : Option Effect

abbrev pub one_more : Burst → Burst
one_more b = record b { done = 1 + b.done }

abbrev pub ended_at : HartState → Memory → Option Effect → Burst
ended_at h g end = record { done = 0; hart = h; memory = g; end = end }

abbrev pub burst_by : (HartState → Memory → Burst) → HartState → Memory → Effect → Burst
burst_by rest h g (Completes next) = one_more (rest next g)
burst_by rest h g (Stores a n value next) = one_more (rest next (with_number g a n value))
burst_by rest h g (Calls next) = ended_at h g (Some (Calls next))
burst_by rest h g (Faults cause) = ended_at h g (Some (Faults cause))

-- the code of module m runs, for at most n instructions
abbrev pub burst : (m n : ℕ) → HartState → Memory → Burst
burst m zero h g = ended_at h g None
burst m (suc n) h g = burst_by (burst m n) h g (executed (seen m g) h)

-- how a burst ended, Done where all its instructions completed, and the registers after its last
-- instruction
abbrev pub out_at : Option Effect → Out
out_at None = Done
out_at (Some e) = out_of e

abbrev pub hart_at : Option Effect → HartState → HartState
hart_at None h = h
hart_at (Some e) h = hart_after e h

-- the registers before a call, by those after it
abbrev pub before_call : HartState → HartState
before_call h = record h { pc = (h.pc + (2 ^ 32 - 4)) % 2 ^ 32 }

-- steps that were made: how many, and the parts of the board after them
pub record Made : Type 0 where
  pub steps : ℕ
  pub parts : Parts

-- a thread's burst, and the call or the fault after it
abbrev pub made_by : Parts → ℕ → Burst → Option Effect → Made
made_by p t b None = record { steps = b.done; parts = ran_on p t b.hart b.memory }
made_by p t b (Some e) = record {
  steps = b.done + 1;
  parts = after_effect (ran_on p t b.hart b.memory) t e;
}

abbrev pub burst_of : Parts → (t n : ℕ) → Burst
burst_of p t n = burst (module_of p.kernel t) n (thread p.kernel t).hart p.memory

-- at most n steps; where no thread runs, all of them change nothing
abbrev pub made_of : ℕ → Parts → Option ℕ → Made
made_of n p None = record { steps = n; parts = p }
made_of n p (Some t) = let b = burst_of p t n in made_by p t b b.end

abbrev pub made : ℕ → Parts → Made
made n p = made_of n p p.kernel.ready.run
