use Rattle.std.proofs.Common.{refl}
use Rattle.ready_maps.proofs.Facts.{placed_all_is}
use Rattle.ready_maps.proofs.state.State.place_all.Goals as goal

pub returns : goal.returns
returns c = rw (c.put_all.ensures.items, c.deref.ensures.value, placed_all_is c.args.self.now c.args.ready.now, ← c.self.view_is) refl
