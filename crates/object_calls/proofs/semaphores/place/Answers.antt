use Rattle.object_calls.proofs.Below.{empty_below}
use Rattle.object_calls.proofs.semaphores.place.Goals as goal

pub returns-clause-serves : goal.returns-clause-serves
returns-clause-serves c =
    let k = c.args.k.now in
    let o = c.args.o in
    let serves = c.requires.serves in
    let empty = c.requires.empty in
    let below = empty_below k.objects o serves.sound.formed.slots empty in
    rw c.make_live.ensures (rw c.create.ensures
    (c.what_is_in_an_object_changes.ensures.semaphore_made k c.args.g.now o c.args.name c.args.count serves below empty c.requires.kind c.requires.name
    c.ranges.count.fits))
