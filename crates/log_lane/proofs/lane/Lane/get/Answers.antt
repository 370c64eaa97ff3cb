use Rattle.log_lane.proofs.Getter.{is_getter}
use Rattle.log_lane.proofs.Steps.{gets}
use Rattle.log_lane.proofs.lane.Lane.get.Goals as goal

pub pop_as-requires-clause-rule : goal.pop_as-requires-clause-rule
pop_as-requires-clause-rule g c = (gets _ _ (is_getter _ _ c.in-Some.is c.pass.invariant).1, λ _ _ _ _. tt)
