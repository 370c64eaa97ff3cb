use Rattle.event_log.proofs.EventLists.{words-with_step, words-irq}
use Rattle.event_log.proofs.laws.an_interrupt_is_one_word_more.Goals as goal

pub returns-clause-step : goal.returns-clause-step
returns-clause-step c = words-with_step

pub returns-clause-irq : goal.returns-clause-irq
returns-clause-irq c = words-irq
