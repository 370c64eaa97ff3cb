use Rattle.std.proofs.Common.{arith, refl}
use Rattle.ready_maps.proofs.Facts.{readied_keeps}
use Rattle.ready_maps.proofs.ready.Ready.ready.Goals as goal

pub invariant_of-self : goal.invariant_of-self
invariant_of-self c = rw c.ready.ensures (readied_keeps c.self.inside.state c.args.t c.self.invariant (omega arith) (rw c.self.view_is c.requires))

pub returns-clause-kept : goal.returns-clause-kept
returns-clause-kept c = invariant_of-self c

pub returns-clause-after : goal.returns-clause-after
returns-clause-after c = rw (c.ready.ensures, c.self.view_is) refl
