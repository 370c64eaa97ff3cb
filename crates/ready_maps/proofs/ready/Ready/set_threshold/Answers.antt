use Rattle.std.proofs.Common.{◌≡◌, true, false, sym, ◌∙◌, arith}
use Rattle.ready_maps.specs.Sched.{runs}
use Rattle.ready_maps.proofs.Facts.{threshold_runner_keeps, threshold_other_keeps}
use Rattle.ready_maps.proofs.ready.Ready.set_threshold.Goals as goal

pub invariant_of-self : goal.invariant_of-self
invariant_of-self c =
    let it_runs : runs c.self.inside.state c.args.t ≡ true = sym c.runs-runs.ensures
    ∙ c.if-runs.true in rw (c.give_way.ensures, c.set_threshold.ensures)
    (threshold_runner_keeps c.self.inside.state c.args.t c.args.threshold c.self.invariant (omega arith) (rw c.self.view_is c.requires) it_runs)

pub returns-then-runs-clause-kept : goal.returns-then-runs-clause-kept
returns-then-runs-clause-kept c = invariant_of-self c

pub invariant_of-self-else-runs : goal.invariant_of-self-else-runs
invariant_of-self-else-runs c =
    let other : runs c.self.inside.state c.args.t ≡ false = sym c.runs-runs.ensures
    ∙ c.if-runs.false in rw (c.release.ensures, c.set_threshold.ensures)
    (threshold_other_keeps c.self.inside.state c.args.t c.args.threshold c.self.invariant (omega arith) (rw c.self.view_is c.requires) other)

pub returns-else-runs-clause-kept : goal.returns-else-runs-clause-kept
returns-else-runs-clause-kept c = invariant_of-self-else-runs c
