-- One thread: its registers and numbers.
use Rattle.std.specs.Prelude.{◌==◌, ◌||◌, Bool, true, false, nat_le, replicate}
use Rattle.tx_types.specs.State.{state_number}
use Rattle.tx_types.specs.declared.state.State.{State}
use Rattle.tx_types.specs.declared.state.State.TheVariants.{Completed, Terminated, Suspended, Sleep}
use Rattle.rv_core.specs.Hart.{HartState}
use Rattle.kernel_state.specs.declared.thread.Thread.{Thread}
use Rattle.kernel_state.specs.declared.thread.ThreadSpec.{ThreadSpec}

-- whether a state is another
abbrev pub is_state : State → State → Bool
is_state a b = state_number a == state_number b

-- the thread runs no more: completed or terminated
abbrev pub is_over : State → Bool
is_over s = is_state s Completed || is_state s Terminated

-- the thread waits for something: every state from SLEEP on
abbrev pub is_waiting : State → Bool
is_waiting s = nat_le (state_number Sleep) (state_number s)

-- registers that are all 0
abbrev pub blank_hart : HartState
blank_hart = record { pc = 0; x = replicate 32 0 }

-- an entry in which no thread was made yet
abbrev pub blank_thread : Thread
blank_thread = record {
  «module» = 0;
  state = Completed;
  hart = blank_hart;
  opening = blank_hart;
  priority = 0;
  threshold = 0;
  slice = 0;
  left = 0;
  held = false;
  fresh = false;
}

-- a thread that is made: suspended, and never started yet
abbrev pub new_thread : ThreadSpec → Thread
new_thread s = record {
  «module» = s.module;
  state = Suspended;
  hart = s.hart;
  opening = s.hart;
  priority = s.priority;
  threshold = s.threshold;
  slice = s.slice;
  left = s.slice;
  held = false;
  fresh = true;
}
