use Rattle.event_log.proofs.Closed.{interrupts-with_step, interrupts-irq, interrupts-counted}
use Rattle.event_log.proofs.EventLists.{events-with_step, events-irq, step_count-with_step, irq_count-with_step, step_count-irq, irq_count-irq}
use Rattle.event_log.proofs.laws.a_history_grows_by_one_event.Goals as goal

pub returns-clause-step : goal.returns-clause-step
returns-clause-step c = events-with_step

pub returns-clause-irq : goal.returns-clause-irq
returns-clause-irq c = events-irq

pub returns-clause-steps_by_step : goal.returns-clause-steps_by_step
returns-clause-steps_by_step c = step_count-with_step

pub returns-clause-irqs_by_step : goal.returns-clause-irqs_by_step
returns-clause-irqs_by_step c = irq_count-with_step

pub returns-clause-steps_by_irq : goal.returns-clause-steps_by_irq
returns-clause-steps_by_irq c = step_count-irq

pub returns-clause-irqs_by_irq : goal.returns-clause-irqs_by_irq
returns-clause-irqs_by_irq c = irq_count-irq

pub returns-clause-interrupts_by_step : goal.returns-clause-interrupts_by_step
returns-clause-interrupts_by_step c = interrupts-with_step

pub returns-clause-interrupts_by_irq : goal.returns-clause-interrupts_by_irq
returns-clause-interrupts_by_irq c = interrupts-irq

pub returns-clause-interrupts_counted : goal.returns-clause-interrupts_counted
returns-clause-interrupts_counted c = interrupts-counted
