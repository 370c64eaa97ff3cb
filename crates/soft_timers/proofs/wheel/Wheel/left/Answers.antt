use Rattle.std.proofs.Common.{◌≡◌, ◌==◌, ◌<◌, ◌≤◌, ◌+◌, ◌^◌, find, Some, arith, rules}
use Rattle.soft_timers.specs.declared.due.Armed.{Armed}
use Rattle.soft_timers.proofs.Entries.{find_has}
use Rattle.soft_timers.proofs.wheel.Wheel.left.Goals as goal

pub overflow_sub-ticks : goal.overflow_sub-ticks
overflow_sub-ticks c =
    let found : find (λ (e : Armed). e.id == c.args.id) c.self.inside.entries.items ≡ Some c.in_ok-e.e = search rules in
    find_has (λ e. c.self.inside.ticks ≤ e.expiry) (λ e. e.id == c.args.id) c.self.inside.entries.items c.in_ok-e.e found c.self.invariant.0.not_past

pub overflow_cast-ticks : goal.overflow_cast-ticks
overflow_cast-ticks c =
    let found : find (λ (e : Armed). e.id == c.args.id) c.self.inside.entries.items ≡ Some c.in_ok-e.e = search rules in
    let near =
    find_has (λ e. e.expiry < c.self.inside.ticks + 2 ^ 32) (λ e. e.id == c.args.id)
    c.self.inside.entries.items c.in_ok-e.e found c.self.invariant.0.not_far in
    omega arith
