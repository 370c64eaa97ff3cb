use Rattle.std.proofs.Common.{length, ap, ◌∙◌}
use Rattle.event_log.specs.Events.{words_of}
use Rattle.board_core.specs.Machine.{Recorded}
use Rattle.board_core.proofs.machine.Machine.taken.Goals as goal

pub returns : goal.returns
returns c =
    c.taken.ensures ∙ (c.self.invariant.counts c.args.d ∙ ap (λ (r : Recorded). length (words_of c.args.d r.history)) c.self.view_is)
