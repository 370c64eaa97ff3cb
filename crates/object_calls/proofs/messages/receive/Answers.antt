use Rattle.std.proofs.Common.{sym}
use Rattle.msg_queues.specs.Queues.{messages_of}
use Rattle.object_calls.proofs.QueueSizes.{none_if_no_first}
use Rattle.object_calls.proofs.messages.receive.Goals as goal

pub wait_for-requires-clause-asked : goal.wait_for-requires-clause-asked
wait_for-requires-clause-asked c =
    (c.requires.queue, none_if_no_first (messages_of c.args.k.now.queues c.args.o) (sym c.in-None.ensures))
