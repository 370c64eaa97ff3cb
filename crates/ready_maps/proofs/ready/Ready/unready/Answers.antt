use Rattle.std.proofs.Common.{◌≡◌, false, sym, ◌∙◌}
use Rattle.ready_maps.specs.Sched.{runs}
use Rattle.ready_maps.specs.Moves.{taken_out}
use Rattle.ready_maps.proofs.Facts.{pick_keeps, taken_laid, taken_keeps}
use Rattle.ready_maps.proofs.ready.Ready.unready.Goals as goal

pub invariant_of-self : goal.invariant_of-self
invariant_of-self c =
    rw (c.pick.ensures, c.take_out.ensures)
    (pick_keeps (taken_out c.self.inside.state c.args.t) (taken_laid c.self.inside.state c.args.t c.self.invariant.laid_out))

pub returns-then-runs-clause-kept : goal.returns-then-runs-clause-kept
returns-then-runs-clause-kept c = invariant_of-self c

pub invariant_of-self-else-runs : goal.invariant_of-self-else-runs
invariant_of-self-else-runs c =
    let other : runs c.self.inside.state c.args.t ≡ false = sym c.runs.ensures
    ∙ c.if-runs.false in rw c.take_out-else-runs.ensures (taken_keeps c.self.inside.state c.args.t c.self.invariant other)

pub returns-else-runs-clause-kept : goal.returns-else-runs-clause-kept
returns-else-runs-clause-kept c = invariant_of-self-else-runs c
