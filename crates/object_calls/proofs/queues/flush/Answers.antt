use Rattle.object_calls.proofs.queues.flush.Goals as goal

pub returns-clause-serves : goal.returns-clause-serves
returns-clause-serves c =
    rw c.flush.ensures (c.what_is_in_an_object_changes.ensures.flush c.args.k.now c.args.g.now c.args.o c.requires.serves c.requires.none)
