use Rattle.std.proofs.Common.{subst, arith}
use Rattle.region_guard.proofs.Reaching.{used_is_in_ram}
use Rattle.region_guard.proofs.guard.Guard.offset.Goals as goal
use Rattle.region_guard.specs.Memory.{IsSound}

pub overflow_sub-result : goal.overflow_sub-result
overflow_sub-result c =
    let range = used_is_in_ram c.args.self.now c.args.m c.args.access c.args.a c.args.n
    (subst IsSound c.self.view_is c.self.invariant) c.requires.some c.requires.allowed in
    range.from_base

pub returns : goal.returns
returns c =
    let range = used_is_in_ram c.args.self.now c.args.m c.args.access c.args.a c.args.n
    (subst IsSound c.self.view_is c.self.invariant) c.requires.some c.requires.allowed in
    let low = range.from_base in
    let high = range.to_end in
    record { from_base = omega arith; inside = omega arith }
