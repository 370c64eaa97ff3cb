use Rattle.thread_calls.proofs.SlotServing.{slots_serve, word_serves}
use Rattle.thread_calls.proofs.objects.allocate.Goals as goal

pub returns-in-Some-clause-serves : goal.returns-in-Some-clause-serves
returns-in-Some-clause-serves c =
    let k = c.args.k.now in
    let g = c.args.g.now in
    word_serves c.a_promised_result_may_be_stored.ensures.stays _ g _ _ _ c.put_word.ensures
    (slots_serve k g _ c.allocate.new.self c.allocate.ensures.after
    (c.a_change_of_slots_keeps_serving.ensures.allocate k g _ c.args.kind c.requires.serves))
