use Rattle.std.proofs.Common.{◌∙◌, ap}
use Rattle.event_log.proofs.Entries.{steps_at, last_steps-at}
use Rattle.event_log.proofs.history.last_steps.Goals as goal

pub returns-in-Some : goal.returns-in-Some
returns-in-Some c = c.steps.ensures ∙ ap steps_at c.in-Some.ensures.value ∙ last_steps-at c.args.entries.now
