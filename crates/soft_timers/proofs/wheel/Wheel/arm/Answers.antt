use Rattle.std.proofs.Common.{◌≡◌, None, arith, sym, subst}
use Rattle.soft_timers.specs.Timers.{TimerTable, armed}
use Rattle.soft_timers.proofs.Kept.{armed_keeps, room}
use Rattle.soft_timers.proofs.wheel.Wheel.arm.Goals as goal

pub push_reserved-requires : goal.push_reserved-requires
push_reserved-requires c =
    let w : TimerTable = record { ticks = c.self.inside.ticks; armings = c.self.inside.armings; entries = c.self.inside.entries.items } in
    let free = subst (λ (v : TimerTable). armed v c.args.id ≡ None) (sym c.self.view_is) c.requires.free in
    let below = room w c.args.id c.self.invariant.0 free (omega arith) in
    grind (arith, below)

pub invariant_of-self : goal.invariant_of-self
invariant_of-self c =
    let w : TimerTable = record { ticks = c.self.inside.ticks; armings = c.self.inside.armings; entries = c.self.inside.entries.items } in
    let free = subst (λ (v : TimerTable). armed v c.args.id ≡ None) (sym c.self.view_is) c.requires.free in
    let kept = armed_keeps w c.args.id c.args.ticks c.self.invariant.0 free (omega arith) (omega arith) in
    (rw (c.push_reserved.ensures.items, c.from.ensures) kept, omega arith)
