use Rattle.std.proofs.Common.{arith, ap, ◌∙◌}
use Rattle.ready_maps.specs.Sched.{Sched}
use Rattle.ready_maps.specs.Moves.{challenged}
use Rattle.ready_maps.proofs.ListFacts.{has_not}
use Rattle.ready_maps.proofs.Facts.{placed_last_laid, runner_below}
use Rattle.ready_maps.proofs.state.State.ready.Goals as goal

pub place_last-requires-clause-unready : goal.place_last-requires-clause-unready
place_last-requires-clause-unready c = has_not c.args.t c.args.self.now.order c.requires.unready

pub challenge-requires-clause-laid_out : goal.challenge-requires-clause-laid_out
challenge-requires-clause-laid_out c =
    rw c.place_last.ensures
    (placed_last_laid c.args.self.now c.args.t c.requires.kept.laid_out (omega arith) (has_not c.args.t c.args.self.now.order c.requires.unready))

pub challenge-requires-clause-below : goal.challenge-requires-clause-below
challenge-requires-clause-below c = rw c.place_last.ensures (runner_below c.args.self.now c.requires.kept)

pub returns : goal.returns
returns c = c.challenge.ensures ∙ ap (λ (s : Sched). challenged s c.args.t s.run) c.place_last.ensures
