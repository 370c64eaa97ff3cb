-- The states of a thread and their numbers (ThreadX API, `tx_api.h`).
use Rattle.std.specs.Prelude.{ℕ}
use Rattle.tx_types.specs.declared.state.State.{State}
use Rattle.tx_types.specs.declared.state.State.TheVariants.{Ready, Completed, Terminated, Suspended}
use Rattle.tx_types.specs.declared.state.State.TheVariants.{Sleep, QueueSusp, SemaphoreSusp}
use Rattle.tx_types.specs.declared.state.State.TheVariants.{EventFlag, BlockMemory, ByteMemory}
use Rattle.tx_types.specs.declared.state.State.TheVariants.{MutexSusp}

abbrev pub state_number : State → ℕ
state_number Ready = 0
state_number Completed = 1
state_number Terminated = 2
state_number Suspended = 3
state_number Sleep = 4
state_number QueueSusp = 5
state_number SemaphoreSusp = 6
state_number EventFlag = 7
state_number BlockMemory = 8
state_number ByteMemory = 9
state_number MutexSusp = 13
