use Rattle.std.proofs.Common.{◌<◌, length, arith, refl}
use Rattle.ready_maps.proofs.Facts.{held_room}
use Rattle.ready_maps.proofs.state.State.join.Goals as goal

pub put_first-requires-clause-room : goal.put_first-requires-clause-room
put_first-requires-clause-room c =
    let few : length c.args.self.now.held < 256 = held_room c.args.self.now c.args.t c.requires.laid_out (omega arith) c.requires.other in
    grind (arith, few)

pub returns : goal.returns
returns c = rw (← c.self.view_is, c.put_first.ensures.items, c.deref.ensures.value) refl
