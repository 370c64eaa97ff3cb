use Rattle.kernel_state.proofs.Ends.{end_changes_one, end_keeps_memory}
use Rattle.kernel_state.proofs.laws.an_end_changes_its_thread_alone.Goals as goal

pub returns : goal.returns
returns c = record { memory = end_keeps_memory; kernel = end_changes_one }
