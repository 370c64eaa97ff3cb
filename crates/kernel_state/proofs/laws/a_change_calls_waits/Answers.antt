use Rattle.kernel_state.proofs.WaitCalls.{begin_calls_waits, wait_end_calls_waits, end_calls_waits, end_only_ends, tick_calls_waits, left_calls_waits}
use Rattle.kernel_state.proofs.WaitCalls.{followed_calls_waits}
use Rattle.kernel_state.proofs.laws.a_change_calls_waits.Goals as goal

pub returns : goal.returns
returns c = record {
  begins = begin_calls_waits;
  wait_ends = wait_end_calls_waits;
  thread_ends = end_calls_waits;
  only_ends = end_only_ends;
  tick = tick_calls_waits c.a_wait_keeps_sound.ensures.ends c.calls_keep_the_wheel.ensures.ticks;
  left = left_calls_waits;
  followed = followed_calls_waits;
}
