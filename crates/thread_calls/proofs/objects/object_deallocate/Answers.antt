use Rattle.thread_calls.proofs.SlotServing.{slots_serve}
use Rattle.thread_calls.proofs.objects.object_deallocate.Goals as goal

pub returns-then-deallocate-clause-serves : goal.returns-then-deallocate-clause-serves
returns-then-deallocate-clause-serves c =
    let k = c.args.k.now in
    let g = c.args.g.now in
    slots_serve k g _ c.deallocate.new.self c.deallocate.ensures.after
    (c.a_change_of_slots_keeps_serving.ensures.deallocate k g _ _ c.requires.serves)
