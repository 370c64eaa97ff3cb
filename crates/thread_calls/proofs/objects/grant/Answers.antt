use Rattle.thread_calls.proofs.SlotServing.{slots_serve, word_serves}
use Rattle.thread_calls.proofs.objects.grant.Goals as goal

pub returns-clause-serves : goal.returns-clause-serves
returns-clause-serves c =
    let k = c.args.k.now in
    let g = c.args.g.now in
    word_serves c.a_promised_result_may_be_stored.ensures.stays _ g _ _ _ c.put_word.ensures
    (slots_serve k g _ c.grant.new.self c.grant.ensures
    (c.a_change_of_slots_keeps_serving.ensures.grant k g _ c.args.o c.requires.serves c.requires.live))
