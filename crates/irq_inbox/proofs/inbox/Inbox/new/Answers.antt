use Rattle.irq_inbox.proofs.Passes.{is_taker}
use Rattle.irq_inbox.proofs.Steps.{begins, forks}
use Rattle.irq_inbox.proofs.inbox.Inbox.new.Goals as goal

pub ruled-requires-clause-rule : goal.ruled-requires-clause-rule
ruled-requires-clause-rule g c = begins

pub another-requires-clause-rule : goal.another-requires-clause-rule
another-requires-clause-rule g c = forks _ _ (is_taker _ _ _ _ c.loop-number.invariant.1)
