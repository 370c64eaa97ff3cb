-- One step of the board: the running thread's next instruction, with its whole call where that is
-- an ECALL.
use Rattle.std.specs.Prelude.{ℕ, List, [], Option, None, Some}
use Rattle.tx_types.specs.End.{WaitEnd}
use Rattle.rv_core.specs.Execute.{Effect, Completes, Stores, Calls, Faults, executed}
use Rattle.rv_core.specs.Hart.{HartState}
use Rattle.rv_core.specs.declared.bus.Cause.{Cause}
use Rattle.region_guard.specs.Memory.{Memory, with_number}
use Rattle.kernel_state.specs.Kernel.{thread, with_thread, module_of}
use Rattle.kernel_state.specs.Change.{Change}
use Rattle.kernel_state.specs.declared.kernel.Kernel.{Kernel}
use Rattle.call_dispatch.specs.Ecall.{dispatched}
use Rattle.module_manager.specs.Halt.{halted}
use Rattle.module_manager.specs.Modules.{with_state}
use Rattle.module_manager.specs.declared.modules.Fault.{Fault}
use Rattle.module_manager.specs.declared.modules.ModuleState.TheVariants.{Faulted}
use Rattle.board_core.specs.Bus.{seen}
use Rattle.board_core.specs.declared.parts.Parts.{Parts}

-- a thread's registers are set
abbrev pub with_hart : Kernel → ℕ → HartState → Kernel
with_hart k t h = with_thread k t (record (thread k t) { hart = h })

-- a thread ran on, to these registers and this memory
abbrev pub ran_on : Parts → ℕ → HartState → Memory → Parts
ran_on p t h g = record p { kernel = with_hart p.kernel t h; memory = g }

-- the effect of the instruction at a thread's pc, which its module must be able to fetch
abbrev pub next_effect : Parts → ℕ → Effect
next_effect p t = executed (seen (module_of p.kernel t) p.memory) (thread p.kernel t).hart

-- a change of kernel and memory
abbrev pub with_change : Parts → Change → Parts
with_change p c = record p { kernel = c.kernel; memory = c.memory }

-- a thread whose pc is past its call: the service that it asks for is served
abbrev pub after_call : Parts → ℕ → Parts
after_call p t = with_change p (dispatched p.kernel p.memory t).change

-- an instruction that can't be executed halts its module, which keeps the cause
unfoldable pub after_fault : Parts → ℕ → Cause → Parts
after_fault p t cause =
    let k = p.kernel in
    let m = module_of k t in
    let fault : Fault = record { thread = t; cause = cause; pc = (thread k t).hart.pc } in
    record (with_change p (halted k p.memory m)) {
      modules = with_state p.modules m (Faulted fault);
    }

abbrev pub after_effect : Parts → ℕ → Effect → Parts
after_effect p t (Completes h) = ran_on p t h p.memory
after_effect p t (Stores a n value h) = ran_on p t h (with_number p.memory a n value)
after_effect p t (Calls h) = after_call (ran_on p t h p.memory) t
after_effect p t (Faults cause) = after_fault p t cause

-- where no thread runs nothing changes
abbrev pub stepped_by : Parts → Option ℕ → Parts
stepped_by p None = p
stepped_by p (Some t) = after_effect p t (next_effect p t)

unfoldable pub stepped : Parts → Parts
stepped p = stepped_by p p.kernel.ready.run

-- the waits that a step ends, in order: those of its call, or of the halt of its module
abbrev pub effect_ends : Parts → ℕ → Effect → List WaitEnd
effect_ends p t (Completes h) = []
effect_ends p t (Stores a n value h) = []
effect_ends p t (Calls h) = (dispatched (with_hart p.kernel t h) p.memory t).change.ends
effect_ends p t (Faults cause) = (halted p.kernel p.memory (module_of p.kernel t)).ends

abbrev pub step_ends : Parts → Option ℕ → List WaitEnd
step_ends p None = []
step_ends p (Some t) = effect_ends p t (next_effect p t)
