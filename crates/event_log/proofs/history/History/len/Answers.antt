use Rattle.std.proofs.Common.{arith}
use Rattle.event_log.proofs.Entries.{sound-few}
use Rattle.event_log.proofs.history.History.len.Goals as goal

pub overflow_cast-result : goal.overflow_cast-result
overflow_cast-result c =
    omega (arith, sound-few _ _ c.self.invariant.0, c.self.invariant.0.at_most, c.len.ensures)

pub returns-clause-few : goal.returns-clause-few
returns-clause-few c = omega (arith, sound-few _ _ c.self.invariant.0, c.self.invariant.0.at_most, c.len.ensures)
