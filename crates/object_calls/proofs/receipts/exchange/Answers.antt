use Rattle.std.proofs.Common.{List, Option, IfSome, ap, subst, sym, ◌∙◌}
use Rattle.msg_queues.specs.Entry.{Queue}
use Rattle.suspend_lists.specs.Waits.{wait_of}
use Rattle.kernel_state.specs.Contents.{entered}
use Rattle.kernel_state.specs.Serves.{Serves}
use Rattle.kernel_state.specs.declared.kernel.Kernel.{Kernel}
use Rattle.object_calls.specs.QueueRows.{MayEnter}
use Rattle.object_calls.proofs.QueueSizes.{first_is_whole, sender_may_enter}
use Rattle.object_calls.proofs.receipts.exchange.Goals as goal

pub enter_asked-requires : goal.enter_asked-requires
enter_asked-requires c =
    let k = c.args.k.now in
    let queue = c.what_a_call_leaves_of_its_queue.ensures in
    let waiter = c.what_is_in_an_object_changes.ensures.waiter in
    let may = sender_may_enter queue.popped queue.sizes waiter k c.args.o c.args.t c.requires.serves.sound c.requires.some c.requires.sender in
    record {
      may = subst (λ (queues : List (Option Queue)). IfSome (wait_of k.waits c.args.t) (λ w. MayEnter queues c.args.o w.asks)) (sym c.pop.ensures.after) may;
    }

pub returns-clause-whole : goal.returns-clause-whole
returns-clause-whole c =
    first_is_whole c.args.k.now.queues c.args.o c.in-Some.message c.requires.serves.sound.formed.contents.queue_table (sym c.in-Some.ensures.answer)

pub returns-clause-serves : goal.returns-clause-serves
returns-clause-serves c =
    let k = c.args.k.now in
    let with_entered = λ (queues : List (Option Queue)). record k { queues = entered queues c.args.o (wait_of k.waits c.args.t) } in
    subst (λ (now : Kernel). Serves now c.args.g.now) (sym (c.enter_asked.ensures ∙ ap with_entered c.pop.ensures.after))
    (c.what_is_in_an_object_changes.ensures.refill k c.args.g.now c.args.o c.args.t c.requires.serves c.requires.sender)
