-- What a call leaves of the registers of its caller.
use Rattle.std.specs.Prelude.{◌≡◌, ◌≢◌, ℕ, Some}
use Rattle.region_guard.specs.Memory.{Memory}
use Rattle.rv_core.specs.Hart.{HartState, register}
use Rattle.kernel_state.specs.Kernel.{thread}
use Rattle.kernel_state.specs.Serves.{Serves}
use Rattle.kernel_state.specs.declared.kernel.Kernel.{Kernel}
use Rattle.call_dispatch.specs.Ecall.{dispatched}

-- pc stays, and so does each register but a0, which is x10 (RISC-V calling convention)
pub record ChangesA0Alone (h now : HartState) : Type 0 where
  pub pc : now.pc ≡ h.pc
  pub registers : (r : ℕ) → r ≢ 10 → register now r ≡ register h r

-- so it is of the caller's registers after every call of the running thread
abbrev pub CallChangesA0Alone : Type 0
CallChangesA0Alone =
    (k : Kernel) (g : Memory) (t : ℕ) → Serves k g → k.ready.run ≡ Some t
    → ChangesA0Alone (thread k t).hart (thread (dispatched k g t).change.kernel t).hart
