use Rattle.msg_queues.proofs.Tables.{new_is_table, calls_keep}
use Rattle.msg_queues.proofs.laws.calls_keep_the_table.Goals as goal

pub returns : goal.returns
returns c = record { new = new_is_table; calls = calls_keep }
