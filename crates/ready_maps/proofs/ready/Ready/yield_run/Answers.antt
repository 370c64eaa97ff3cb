use Rattle.std.proofs.Common.{◌≡◌, Some, sym, ◌∙◌}
use Rattle.ready_maps.proofs.Facts.{pick_keeps, runner_unordered, yielded_laid}
use Rattle.ready_maps.proofs.ready.Ready.yield_run.Goals as goal

pub requeue-requires : goal.requeue-requires
requeue-requires c =
    let running : c.self.inside.state.run ≡ Some c.in-Some.r = sym c.running.ensures ∙ c.in-Some.is in
    runner_unordered c.self.inside.state c.in-Some.r c.self.invariant running

pub invariant_of-self : goal.invariant_of-self
invariant_of-self c =
    let running : c.self.inside.state.run ≡ Some c.in-Some.r = sym c.running.ensures ∙ c.in-Some.is in
    rw (c.pick.ensures, c.requeue.ensures) (pick_keeps _ (yielded_laid c.self.inside.state c.in-Some.r c.self.invariant running))

pub returns-in-Some-clause-kept : goal.returns-in-Some-clause-kept
returns-in-Some-clause-kept c = invariant_of-self c
