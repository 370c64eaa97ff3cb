use Rattle.soft_timers.proofs.Turns.{ticks_leave_the_due, calls_keep_running, calls_add_none, turns_take_one, none_is_running, runs_after_the_turns}
use Rattle.soft_timers.proofs.laws.each_has_a_tick_left.Goals as goal

pub returns-clause-tick : goal.returns-clause-tick
returns-clause-tick c = ticks_leave_the_due

pub returns-clause-keeps : goal.returns-clause-keeps
returns-clause-keeps c = calls_keep_running

pub returns-clause-calls : goal.returns-clause-calls
returns-clause-calls c = calls_add_none

pub returns-clause-turn : goal.returns-clause-turn
returns-clause-turn c = turns_take_one

pub returns-clause-none : goal.returns-clause-none
returns-clause-none c = none_is_running

pub returns-clause-after_the_turns : goal.returns-clause-after_the_turns
returns-clause-after_the_turns c = runs_after_the_turns
