use Rattle.std.proofs.Common.{List, Option, subst, sym}
use Rattle.msg_queues.specs.Entry.{Queue}
use Rattle.kernel_state.specs.Serves.{Serves}
use Rattle.object_calls.proofs.sends.enter.Goals as goal

pub returns-clause-serves : goal.returns-clause-serves
returns-clause-serves c =
    let k = c.args.k.now in
    let law = c.what_is_in_an_object_changes.ensures in
    let nobody = law.none_for_room k c.args.o c.requires.serves.sound c.requires.free c.requires.none in
    subst (λ (queues : List (Option Queue)). Serves (record k { queues = queues }) c.args.g.now) (sym c.put.ensures)
    (law.put k c.args.g.now c.args.o c.args.message.now c.args.front c.requires.serves c.requires.free c.requires.whole nobody)
