use Rattle.std.proofs.Common.{◌≡◌, ℕ, true, length, Some}
use Rattle.suspend_lists.specs.ThreadList.{has}
use Rattle.kernel_state.specs.Kernel.{effective_priority}
use Rattle.kernel_state.specs.Objects.{most_urgent, waiters_of}
use Rattle.kernel_state.proofs.Urgent.{ahead, walked}
use Rattle.kernel_state.proofs.kernel.Kernel.most_urgent.Given as goal

-- the best of the waiters yet and those ahead make out the most urgent of all
abbrev pub invariant-loop-next : goal.invariant-loop-next
invariant-loop-next l =
    let ws = waiters_of l.fn.self l.fn.o in
    record {
      finds : most_urgent l.fn.self ws ≡ Some (walked (effective_priority l.fn.self) l.best (ahead ws l.next));
      stands : (t : ℕ) → l.next ≡ Some t → has t ws ≡ true;
    }

abbrev pub decreases-loop-next : goal.decreases-loop-next
decreases-loop-next l = length (ahead (waiters_of l.fn.self l.fn.o) l.next)
