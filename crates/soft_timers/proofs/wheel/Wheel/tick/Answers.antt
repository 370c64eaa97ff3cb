use Rattle.soft_timers.specs.Timers.{TimerTable}
use Rattle.soft_timers.proofs.Kept.{few_armed}
use Rattle.soft_timers.proofs.wheel.Wheel.tick.Goals as goal

pub list-requires : goal.list-requires
list-requires c =
    let w : TimerTable = record { ticks = c.self.inside.ticks; armings = c.self.inside.armings; entries = c.self.inside.entries.items } in
    let most = few_armed w c.self.invariant.0 in
    rw c.deref.ensures.value most
