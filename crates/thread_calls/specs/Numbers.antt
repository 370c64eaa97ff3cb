-- The numbers of a thread that services read and change.
use Rattle.std.specs.Prelude.{ℕ, List, [], ◌∷◌}
use Rattle.tx_types.specs.State.{state_number}
use Rattle.ready_maps.specs.Moves.{threshold_set, priority_set}
use Rattle.kernel_state.specs.Kernel.{thread, with_thread, effective_priority, effective_threshold}
use Rattle.kernel_state.specs.Registers.{flag}
use Rattle.kernel_state.specs.declared.kernel.Kernel.{Kernel}

-- new numbers of the user's, which the scheduler takes over
abbrev pub with_user_threshold : Kernel → ℕ → ℕ → Kernel
with_user_threshold k t new =
    let now = with_thread k t (record (thread k t) { threshold = new }) in
    record now { ready = threshold_set k.ready t (effective_threshold now t) }

abbrev pub with_user_priority : Kernel → ℕ → ℕ → Kernel
with_user_priority k t new =
    let now = with_thread k t (record (thread k t) { priority = new; threshold = new }) in
    record now {
      ready = priority_set k.ready t (effective_priority now t) (effective_threshold now t);
    }

abbrev pub with_slice : Kernel → ℕ → ℕ → Kernel
with_slice k t new = with_thread k t (record (thread k t) { slice = new; left = new })

-- what is read of a thread
abbrev pub thread_info : Kernel → ℕ → List ℕ
thread_info k t =
    state_number (thread k t).state ∷ flag (thread k t).held ∷ (thread k t).priority
    ∷ (thread k t).threshold
    ∷ effective_priority k t ∷ effective_threshold k t ∷ (thread k t).slice ∷ (thread k t).left ∷ []
