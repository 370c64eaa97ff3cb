use Rattle.std.proofs.Common.{◌≡◌, true, false, sym, ◌∙◌, arith}
use Rattle.ready_maps.specs.Sched.{runs, is_ready}
use Rattle.ready_maps.proofs.ListFacts.{without_is_not}
use Rattle.ready_maps.proofs.Facts.{renumbered_laid, renumbered_keeps, renumbered_unready, priority_runner_keeps, priority_ready_keeps, priority_other_keeps}
use Rattle.ready_maps.proofs.Facts.{priority_runner_is, priority_ready_is}
use Rattle.ready_maps.proofs.ready.Ready.set_priority.Goals as goal

pub place_again-requires-clause-laid_out : goal.place_again-requires-clause-laid_out
place_again-requires-clause-laid_out c =
    rw c.renumber.ensures
    (renumbered_laid c.self.inside.state c.args.t c.args.priority c.args.threshold c.self.invariant.laid_out (omega arith) c.requires.at_most
    (rw c.self.view_is c.requires.level))

pub place_again-requires-clause-unready : goal.place_again-requires-clause-unready
place_again-requires-clause-unready c = rw c.renumber.ensures (without_is_not c.args.t c.self.inside.state.order)

pub invariant_of-self : goal.invariant_of-self
invariant_of-self c =
    rw (c.pick.ensures, c.place_again.ensures, c.renumber.ensures)
    (priority_runner_keeps c.self.inside.state c.args.t c.args.priority c.args.threshold c.self.invariant (omega arith) c.requires.at_most
    (rw c.self.view_is c.requires.level))

pub returns-then-runs-clause-after : goal.returns-then-runs-clause-after
returns-then-runs-clause-after c =
    let it_runs : runs c.self.inside.state c.args.t ≡ true = sym c.runs.ensures
    ∙ c.if-runs.true in rw (c.pick.ensures, c.place_again.ensures, c.renumber.ensures, ← c.self.view_is)
    (priority_runner_is c.self.inside.state c.args.t c.args.priority c.args.threshold it_runs)

pub returns-then-runs-clause-kept : goal.returns-then-runs-clause-kept
returns-then-runs-clause-kept c = invariant_of-self c

pub ready-requires-clause-kept : goal.ready-requires-clause-kept
ready-requires-clause-kept c =
    let other : runs c.self.inside.state c.args.t ≡ false = sym c.runs.ensures
    ∙ c.if-runs.false in rw c.renumber-then-is_ready.ensures
    (renumbered_keeps c.self.inside.state c.args.t c.args.priority c.args.threshold c.self.invariant (omega arith) c.requires.at_most
    (rw c.self.view_is c.requires.level) other)

pub ready-requires-clause-unready : goal.ready-requires-clause-unready
ready-requires-clause-unready c = rw c.renumber-then-is_ready.ensures (renumbered_unready c.self.inside.state c.args.t c.args.priority c.args.threshold)

pub invariant_of-self-then-is_ready : goal.invariant_of-self-then-is_ready
invariant_of-self-then-is_ready c =
    let other : runs c.self.inside.state c.args.t ≡ false = sym c.runs.ensures ∙ c.if-runs.false in rw (c.ready.ensures, c.renumber-then-is_ready.ensures)
    (priority_ready_keeps c.self.inside.state c.args.t c.args.priority c.args.threshold c.self.invariant (omega arith) c.requires.at_most
    (rw c.self.view_is c.requires.level) other)

pub returns-then-is_ready-clause-after : goal.returns-then-is_ready-clause-after
returns-then-is_ready-clause-after c =
    let other : runs c.self.inside.state c.args.t ≡ false = sym c.runs.ensures
    ∙ c.if-runs.false in let ready : is_ready c.self.inside.state c.args.t ≡ true = sym c.is_ready.ensures
    ∙ c.if-is_ready.true in rw (c.ready.ensures, c.renumber-then-is_ready.ensures, ← c.self.view_is)
    (priority_ready_is c.self.inside.state c.args.t c.args.priority c.args.threshold other ready)

pub returns-then-is_ready-clause-kept : goal.returns-then-is_ready-clause-kept
returns-then-is_ready-clause-kept c = invariant_of-self-then-is_ready c

pub invariant_of-self-else-is_ready : goal.invariant_of-self-else-is_ready
invariant_of-self-else-is_ready c =
    let unready : is_ready c.self.inside.state c.args.t ≡ false = sym c.is_ready.ensures
    ∙ c.if-is_ready.false in rw c.set_numbers.ensures
    (priority_other_keeps c.self.inside.state c.args.t c.args.priority c.args.threshold c.self.invariant (omega arith) c.requires.at_most
    (rw c.self.view_is c.requires.level) unready)

pub returns-else-is_ready-clause-kept : goal.returns-else-is_ready-clause-kept
returns-else-is_ready-clause-kept c = invariant_of-self-else-is_ready c
