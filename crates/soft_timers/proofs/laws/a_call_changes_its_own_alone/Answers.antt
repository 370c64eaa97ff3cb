use Rattle.soft_timers.proofs.Turns.{calls_spare_others, armed_is_there, disarmed_is_none}
use Rattle.soft_timers.proofs.laws.a_call_changes_its_own_alone.Goals as goal

pub returns : goal.returns
returns c = record { others = calls_spare_others; armed = armed_is_there; disarmed = disarmed_is_none }
