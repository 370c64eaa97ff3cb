-- A thread that is created to start at once.
use Rattle.std.proofs.Common.{◌≡◌, ℕ, ◌==◌, List}
use Rattle.std.proofs.lemmas.Bool.{cond-true, eq-eqb}
use Rattle.kernel_state.specs.declared.kernel.Kernel.{Kernel}
use Rattle.kernel_state.specs.Change.{quiet}
use Rattle.kernel_state.specs.Kernel.{placed}
use Rattle.kernel_state.specs.ThreadChanges.{started}
use Rattle.region_guard.specs.Memory.{Memory}
use Rattle.thread_calls.specs.Create.{created, spec_of}
use Rattle.thread_calls.specs.declared.create.ThreadBlock.{ThreadBlock}

pub created-auto : (k : Kernel) (g : Memory) (by o : ℕ) (name : List ℕ) (b : ThreadBlock) → b.auto ≡ 1
    → created k g by o name b ≡ started (placed k o name (spec_of k by b)) g o
unfolding created
created-auto k g by o name b auto =
    let now = placed k o name (spec_of k by b) in cond-true (b.auto == 1) (started now g o) (quiet now g) (eq-eqb b.auto 1 auto)
