use Rattle.std.proofs.Common.{◌<◌, length, All, subst, sym}
use Rattle.region_guard.proofs.Own.{own_room}
use Rattle.region_guard.proofs.regions.Regions.push.Goals as goal

pub add_to_own-requires-clause-room : goal.add_to_own-requires-clause-room
add_to_own-requires-clause-room c =
    let room = own_room c.self.inside.all c.self.inside.own.items c.self.invariant (subst (λ rs. length rs < 64) (sym c.self.view_is) c.requires) in
    subst (All (λ list. length list < 64)) (sym c.deref_mut.ensures.value) room
