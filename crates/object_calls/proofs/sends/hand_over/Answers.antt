use Rattle.std.proofs.Common.{ap, sym, ◌∙◌}
use Rattle.kernel_state.specs.Contents.{result_words}
use Rattle.kernel_state.specs.Objects.{asks_to_receive}
use Rattle.object_calls.proofs.FirstWaiter.{first_asks}
use Rattle.object_calls.proofs.sends.hand_over.Goals as goal

pub satisfy-requires-clause-result : goal.satisfy-requires-clause-result
satisfy-requires-clause-result c =
    let k = c.args.k.now in
    let w = (first_asks c.what_is_in_an_object_changes.ensures.waiter asks_to_receive k c.args.o c.args.t c.requires.serves.sound c.requires.first).waiter in
    c.a_promised_result_may_be_stored.ensures.kept k c.args.g.now c.args.t w.wait c.args.message.now c.requires.serves w.is
    (c.requires.whole ∙ sym (ap (result_words k.queues) w.on))
