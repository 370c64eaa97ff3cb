-- How the state of a thread changes: it is started, suspended, ended, or begins anew.
use Rattle.std.specs.Prelude.{ℕ, Bool, false, true, [], if◌then◌else◌}
use Rattle.tx_types.specs.declared.state.State.{State}
use Rattle.tx_types.specs.declared.state.State.TheVariants.{Ready, Suspended}
use Rattle.tx_types.specs.declared.waits.End.TheVariants.{Gone}
use Rattle.ready_maps.specs.Moves.{unreadied}
use Rattle.ready_maps.specs.Sched.{is_ready}
use Rattle.region_guard.specs.Memory.{Memory}
use Rattle.kernel_state.specs.Change.{Change, followed, quiet}
use Rattle.kernel_state.specs.Kernel.{thread, with_thread}
use Rattle.kernel_state.specs.Readying.{made_ready, made_unready}
use Rattle.kernel_state.specs.Thread.{is_over, is_state, is_waiting}
use Rattle.kernel_state.specs.Waiting.{wait_ended}
use Rattle.kernel_state.specs.declared.kernel.Kernel.{Kernel}

-- a thread was never started since it was created or reset, or was
abbrev pub with_fresh : Kernel → ℕ → Bool → Kernel
with_fresh k t fresh = with_thread k t (record (thread k t) { fresh = fresh })

-- a suspended thread is started
abbrev pub started : Kernel → Memory → ℕ → Change
started k g t = quiet (made_ready (with_fresh k t false) t) g

-- a suspension is held until the end of a wait, and one that is held is lifted
abbrev pub with_held : Kernel → ℕ → Bool → Kernel
with_held k t held = with_thread k t (record (thread k t) { held = held })

-- a ready thread is suspended at once, and a waiting one at the end of its wait
abbrev pub suspended : Kernel → Memory → ℕ → Change
suspended k g t =
    quiet (
    if is_state (thread k t).state Ready then made_unready k t Suspended
    else (if is_waiting (thread k t).state then with_held k t true else k)
    ) g

-- a thread that isn't over is completed or terminated
abbrev pub ended_now : Kernel → ℕ → State → Kernel
ended_now k t state =
    record (with_thread k t (record (thread k t) { state = state; held = false })) {
      ready = (if is_ready k.ready t then unreadied k.ready t else k.ready);
    }

-- a thread that is over stays as it is
abbrev pub over_by : Kernel → ℕ → State → Kernel
over_by k t state = if is_over (thread k t).state then k else ended_now k t state

-- the wait of a thread that waits is over with it
abbrev pub gone : Kernel → Memory → ℕ → Change
gone k g t = if is_waiting (thread k t).state then wait_ended k g t Gone [] else quiet k g

-- a thread ends: first its wait, if it is in one
abbrev pub ended : Kernel → Memory → ℕ → State → Change
ended k g t state =
    followed (gone k g t) (λ k g. quiet (over_by k t state) g)

-- a thread that is over begins anew, as it was created
abbrev pub reset : Kernel → Memory → ℕ → Change
reset k g t =
    quiet (with_thread k t (record (thread k t) {
      hart = (thread k t).opening;
      state = Suspended;
      left = (thread k t).slice;
      fresh = true;
    })) g
