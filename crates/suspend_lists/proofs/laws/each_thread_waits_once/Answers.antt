use Rattle.suspend_lists.proofs.OverCalls.{at_one_place, once_there, else_nowhere}
use Rattle.suspend_lists.proofs.laws.each_thread_waits_once.Goals as goal

pub returns-clause-at_one_place : goal.returns-clause-at_one_place
returns-clause-at_one_place c = at_one_place

pub returns-clause-once_there : goal.returns-clause-once_there
returns-clause-once_there c = once_there

pub returns-clause-else_nowhere : goal.returns-clause-else_nowhere
returns-clause-else_nowhere c = else_nowhere
