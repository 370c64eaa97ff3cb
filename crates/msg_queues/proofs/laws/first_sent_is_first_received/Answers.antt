use Rattle.msg_queues.proofs.Tables.{first_in_first_out}
use Rattle.msg_queues.proofs.laws.first_sent_is_first_received.Goals as goal

pub returns : goal.returns
returns c = first_in_first_out
