use Rattle.soft_timers.proofs.Kept.{new_is_wheel}
use Rattle.soft_timers.proofs.Turns.{calls_keep, ticks_keep}
use Rattle.soft_timers.proofs.laws.calls_keep_the_wheel.Goals as goal

pub returns-clause-new : goal.returns-clause-new
returns-clause-new c = new_is_wheel

pub returns-clause-calls : goal.returns-clause-calls
returns-clause-calls c = calls_keep

pub returns-clause-ticks : goal.returns-clause-ticks
returns-clause-ticks c = ticks_keep
