-- A thread becomes ready, or is ready no longer.
use Rattle.std.specs.Prelude.{ℕ}
use Rattle.tx_types.specs.declared.state.State.{State}
use Rattle.tx_types.specs.declared.state.State.TheVariants.{Ready}
use Rattle.ready_maps.specs.Moves.{readied, unreadied}
use Rattle.kernel_state.specs.Kernel.{thread, with_thread}
use Rattle.kernel_state.specs.declared.kernel.Kernel.{Kernel}

-- a thread that isn't ready becomes so: its time slice is whole again
abbrev pub made_ready : Kernel → ℕ → Kernel
made_ready k t =
    record (with_thread k t (record (thread k t) { state = Ready; left = (thread k t).slice })) {
      ready = readied k.ready t;
    }

-- a ready thread is ready no longer, and has another state
abbrev pub made_unready : Kernel → ℕ → State → Kernel
made_unready k t state =
    record (with_thread k t (record (thread k t) { state = state })) { ready = unreadied k.ready t }
