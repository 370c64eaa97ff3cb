use Rattle.std.proofs.Common.{List, Option, subst, sym}
use Rattle.msg_queues.specs.Entry.{Queue}
use Rattle.kernel_state.specs.Serves.{Serves}
use Rattle.object_calls.proofs.QueueSizes.{first_is_whole}
use Rattle.object_calls.proofs.receipts.take_out.Goals as goal

pub returns-clause-whole : goal.returns-clause-whole
returns-clause-whole c =
    first_is_whole c.args.k.now.queues c.args.o c.in-Some.message c.requires.serves.sound.formed.contents.queue_table (sym c.in-Some.ensures.answer)

pub returns-clause-serves : goal.returns-clause-serves
returns-clause-serves c =
    let k = c.args.k.now in
    subst (λ (queues : List (Option Queue)). Serves (record k { queues = queues }) c.args.g.now) (sym c.pop.ensures.after)
    (c.what_is_in_an_object_changes.ensures.pop k c.args.g.now c.args.o c.requires.serves c.requires.some c.requires.none)
