use Rattle.kernel_state.proofs.Running.{running_is_ready, ready_is_thread, waiter_has_wait}
use Rattle.kernel_state.proofs.Sound.{thread_is_right}
use Rattle.kernel_state.proofs.laws.who_runs_is_a_thread.Goals as goal

pub returns : goal.returns
returns c = record {
  running_is_ready = running_is_ready;
  ready_is_thread = ready_is_thread;
  thread_is_right = thread_is_right;
  waiter_has_wait = waiter_has_wait;
}
