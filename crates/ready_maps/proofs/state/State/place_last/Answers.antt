use Rattle.std.proofs.Common.{◌<◌, length, arith, refl}
use Rattle.ready_maps.proofs.ListFacts.{room}
use Rattle.ready_maps.proofs.state.State.place_last.Goals as goal

pub put_last-requires-clause-room : goal.put_last-requires-clause-room
put_last-requires-clause-room c =
    let few : length c.args.self.now.order < 256 = room c.args.t c.args.self.now.order
    (omega arith) c.requires.laid_out.in_range c.requires.laid_out.each_once c.requires.unready in
    grind (arith, few)

pub returns : goal.returns
returns c = rw (← c.self.view_is, c.put_last.ensures.items, c.deref.ensures.value) refl
