use Rattle.std.proofs.Common.{◌≡◌}
use Rattle.kernel_state.specs.Serves.{Serves}
use Rattle.module_manager.specs.Halt.{AreOver, clearing}
use Rattle.module_manager.proofs.Folds.{changed_below}
use Rattle.module_manager.proofs.halt.clear_slots.Given as goal

abbrev pub invariant-loop-o : goal.invariant-loop-o
invariant-loop-o l =
    let now = changed_below l.o (clearing l.m) l.initial.k l.initial.g in
    (l.k ≡ now.kernel) × (l.g ≡ now.memory) × Serves l.k l.g × AreOver l.k l.m
