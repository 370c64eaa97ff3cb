use Rattle.std.proofs.Common.{◌≡◌, [], All, length}
use Rattle.kernel_state.specs.ObjectLaws.{HasNoResult}
use Rattle.kernel_state.specs.Objects.{all_ended, waiters_of}
use Rattle.kernel_state.specs.Serves.{Serves}
use Rattle.kernel_state.proofs.kernel.Kernel.end_all.Given as goal

-- the waits that are left end as they would have
abbrev pub invariant-loop-t : goal.invariant-loop-t
invariant-loop-t l = record {
  kernel : (all_ended l.e (waiters_of l.self l.o) l.self l.g).kernel ≡ (all_ended l.e (waiters_of l.initial.self l.o) l.initial.self l.initial.g).kernel;
  memory : (all_ended l.e (waiters_of l.self l.o) l.self l.g).memory ≡ (all_ended l.e (waiters_of l.initial.self l.o) l.initial.self l.initial.g).memory;
  serves : Serves l.self l.g;
  nothing : All (HasNoResult l.self l.e) (waiters_of l.self l.o);
  none : l.none ≡ [];
}

abbrev pub decreases-loop-t : goal.decreases-loop-t
decreases-loop-t l = length (waiters_of l.self l.o)
