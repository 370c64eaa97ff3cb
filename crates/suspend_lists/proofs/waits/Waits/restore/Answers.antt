use Rattle.std.proofs.Common.{◌≡◌, None, arith, subst, sym}
use Rattle.suspend_lists.specs.Waits.{WaitTable, IsTable, pending, restored}
use Rattle.suspend_lists.proofs.Kept.{restored_keeps, room_at}
use Rattle.suspend_lists.proofs.waits.Waits.restore.Goals as goal

pub join-requires-clause-room : goal.join-requires-clause-room
join-requires-clause-room c =
    let w : WaitTable = record { totals = c.self.inside.totals; lists = c.self.inside.lists.items; waits = c.self.inside.waits.items } in
    let free = subst (λ (v : WaitTable). pending v c.args.t ≡ None) (sym c.self.view_is) c.requires.free in
    room_at w c.args.t _ c.self.invariant (omega arith) free

pub invariant_of-self : goal.invariant_of-self
invariant_of-self c =
    let kept =
    restored_keeps c.args.self.now c.args.t c.args.w c.args.n (subst IsTable c.self.view_is c.self.invariant) (omega arith)
    c.requires.free c.join.ensures.place c.requires.given c.requires.unused c.requires.fits in
    rw (c.join.ensures.after, c.place.ensures.same) (subst (λ (v : WaitTable). IsTable (restored v c.args.t c.args.w c.args.n)) (sym c.self.view_is) kept)
