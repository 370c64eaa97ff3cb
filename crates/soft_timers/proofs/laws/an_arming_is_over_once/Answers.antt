use Rattle.soft_timers.proofs.Turns.{due_are_in_order, due_are_armed, disarmed_is_over, over_stays_over}
use Rattle.soft_timers.proofs.laws.an_arming_is_over_once.Goals as goal

pub returns-clause-in_order : goal.returns-clause-in_order
returns-clause-in_order c = due_are_in_order

pub returns-clause-armed : goal.returns-clause-armed
returns-clause-armed c = due_are_armed

pub returns-clause-disarmed : goal.returns-clause-disarmed
returns-clause-disarmed c = disarmed_is_over

pub returns-clause-stays_over : goal.returns-clause-stays_over
returns-clause-stays_over c = over_stays_over
