use Rattle.msg_queues.proofs.Tables.{calls_spare_others}
use Rattle.msg_queues.proofs.laws.a_call_changes_its_queue_alone.Goals as goal

pub returns : goal.returns
returns c = calls_spare_others
