use Rattle.kernel_state.proofs.Ends.{end_raises_none, wait_end_raises_none}
use Rattle.kernel_state.proofs.TickChanges.{tick_raises_one}
use Rattle.kernel_state.proofs.WaitChanges.{begin_raises_one}
use Rattle.kernel_state.proofs.laws.a_change_raises_counts_by_one.Goals as goal

pub returns : goal.returns
returns c = record { begins = begin_raises_one; wait_ends = wait_end_raises_none; thread_ends = end_raises_none; tick = tick_raises_one }
