use Rattle.log_lane.proofs.Steps.{puts, holds_no_more}
use Rattle.log_lane.proofs.lane.Lane.put.Goals as goal

pub push_as-requires-clause-rule : goal.push_as-requires-clause-rule
push_as-requires-clause-rule g c = (puts _ _ _ _ c.pass.invariant.1, holds_no_more _ _ c.pass.invariant.1)
