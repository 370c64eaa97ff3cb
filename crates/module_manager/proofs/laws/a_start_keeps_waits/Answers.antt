use Rattle.module_manager.proofs.Started.{start_keeps_waits}
use Rattle.module_manager.proofs.laws.a_start_keeps_waits.Goals as goal

pub returns : goal.returns
returns c = start_keeps_waits
