use Rattle.object_calls.proofs.instances.set_count.Goals as goal

pub returns-clause-serves : goal.returns-clause-serves
returns-clause-serves c =
    rw c.set.ensures
    (c.what_is_in_an_object_changes.ensures.count c.args.k.now c.args.g.now c.args.o c.args.n c.requires.serves c.requires.semaphore c.ranges.n.fits
    c.requires.free)
