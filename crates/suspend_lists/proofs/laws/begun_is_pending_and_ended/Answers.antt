use Rattle.suspend_lists.proofs.OverCalls.{new_is_whole, calls_keep_whole}
use Rattle.suspend_lists.proofs.laws.begun_is_pending_and_ended.Goals as goal

pub returns-clause-new : goal.returns-clause-new
returns-clause-new c = new_is_whole

pub returns-clause-calls : goal.returns-clause-calls
returns-clause-calls c = calls_keep_whole
