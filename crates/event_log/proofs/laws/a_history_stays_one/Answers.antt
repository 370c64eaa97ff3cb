use Rattle.event_log.proofs.Entries.{history-step, history-steps, history-irq, front-history}
use Rattle.event_log.proofs.LogIn.{history-tested, tested-history}
use Rattle.event_log.proofs.laws.a_history_stays_one.Goals as goal

pub returns-clause-step : goal.returns-clause-step
returns-clause-step c = λ devices es h less. tested-history devices _ (history-step devices es (history-tested devices es h) less)

pub returns-clause-steps : goal.returns-clause-steps
returns-clause-steps c = λ devices n es h few. tested-history devices _ (history-steps devices n es (history-tested devices es h) few)

pub returns-clause-irq : goal.returns-clause-irq
returns-clause-irq c = λ devices d w es h small word less.
    tested-history devices _ (history-irq devices es d w (history-tested devices es h) small word less)

pub returns-clause-prefix : goal.returns-clause-prefix
returns-clause-prefix c = λ devices es after h. tested-history devices es (front-history devices es after (history-tested devices _ h))

pub returns-clause-tested : goal.returns-clause-tested
returns-clause-tested c = λ devices es. (history-tested devices es, tested-history devices es)
