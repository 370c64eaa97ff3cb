use Rattle.event_log.proofs.Closed.{closed-with_step, closed-with_steps, closed-irq, closed-whole, interrupts-closed, closed-few, closed-prefix}
use Rattle.event_log.proofs.laws.an_interrupt_closes_an_entry.Goals as goal

pub returns-clause-step : goal.returns-clause-step
returns-clause-step c = closed-with_step

pub returns-clause-steps : goal.returns-clause-steps
returns-clause-steps c = closed-with_steps

pub returns-clause-irq : goal.returns-clause-irq
returns-clause-irq c = closed-irq

pub returns-clause-whole : goal.returns-clause-whole
returns-clause-whole c = closed-whole

pub returns-clause-interrupts : goal.returns-clause-interrupts
returns-clause-interrupts c = interrupts-closed

pub returns-clause-few : goal.returns-clause-few
returns-clause-few c = closed-few

pub returns-clause-no_steps_last : goal.returns-clause-no_steps_last
returns-clause-no_steps_last c = closed-prefix
