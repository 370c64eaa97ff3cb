use Rattle.call_dispatch.proofs.Answered.{answered_serves}
use Rattle.call_dispatch.proofs.ecall.dispatch.Goals as goal

pub returns-clause-serves : goal.returns-clause-serves
returns-clause-serves c = answered_serves _ _ _ _ _ c.call-answer.ensures.serves c.put_answer.ensures.after c.put_answer.ensures.sound
