use Rattle.irq_inbox.proofs.Steps.{raises, rests}
use Rattle.irq_inbox.proofs.inbox.Inbox.raise.Goals as goal

pub push_as-requires-clause-rule : goal.push_as-requires-clause-rule
push_as-requires-clause-rule g c = (raises _ _ _ _ _ c.pass.invariant.1, rests _ _ _ c.pass.invariant.1)
