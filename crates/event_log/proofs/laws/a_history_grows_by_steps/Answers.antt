use Rattle.event_log.proofs.Closed.{interrupts-with_steps}
use Rattle.event_log.proofs.EventLists.{events-with_steps, step_count-with_steps, irq_count-with_steps, words-with_steps, with_steps-parts}
use Rattle.event_log.proofs.laws.a_history_grows_by_steps.Goals as goal

pub returns-clause-events : goal.returns-clause-events
returns-clause-events c = events-with_steps

pub returns-clause-steps : goal.returns-clause-steps
returns-clause-steps c = step_count-with_steps

pub returns-clause-irqs : goal.returns-clause-irqs
returns-clause-irqs c = irq_count-with_steps

pub returns-clause-words : goal.returns-clause-words
returns-clause-words c = words-with_steps

pub returns-clause-parts : goal.returns-clause-parts
returns-clause-parts c = with_steps-parts

pub returns-clause-interrupts : goal.returns-clause-interrupts
returns-clause-interrupts c = interrupts-with_steps
