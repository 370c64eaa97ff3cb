use Rattle.std.proofs.Common.{arith}
use Rattle.soft_timers.specs.Timers.{TimerTable}
use Rattle.soft_timers.proofs.Kept.{disarmed_keeps}
use Rattle.soft_timers.proofs.wheel.Wheel.disarm.Goals as goal

pub invariant_of-self : goal.invariant_of-self
invariant_of-self c =
    let w : TimerTable = record { ticks = c.self.inside.ticks; armings = c.self.inside.armings; entries = c.self.inside.entries.items } in
    (rw c.take_out.ensures.items (disarmed_keeps w c.args.id c.self.invariant.0), omega arith)
