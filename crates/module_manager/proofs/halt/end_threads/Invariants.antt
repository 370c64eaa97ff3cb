use Rattle.std.proofs.Common.{◌≡◌}
use Rattle.kernel_state.specs.Serves.{Serves}
use Rattle.module_manager.specs.Halt.{ending}
use Rattle.module_manager.proofs.Folds.{changed_below}
use Rattle.module_manager.proofs.halt.end_threads.Given as goal

abbrev pub invariant-loop-t : goal.invariant-loop-t
invariant-loop-t l =
    let now = changed_below l.t (ending l.m) l.initial.k l.initial.g in
    (l.k ≡ now.kernel) × (l.g ≡ now.memory) × Serves l.k l.g
