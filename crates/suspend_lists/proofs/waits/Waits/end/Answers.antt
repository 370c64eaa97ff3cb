use Rattle.std.proofs.Common.{◌≡◌, rules, subst, sym, IsSome}
use Rattle.suspend_lists.specs.Wait.{place}
use Rattle.suspend_lists.specs.Waits.{WaitTable, pending, place_of}
use Rattle.suspend_lists.proofs.Kept.{ended_keeps}
use Rattle.suspend_lists.proofs.waits.Waits.end.Goals as goal

pub invariant_of-self : goal.invariant_of-self
invariant_of-self c =
    let w : WaitTable = record { totals = c.self.inside.totals; lists = c.self.inside.lists.items; waits = c.self.inside.waits.items } in
    let at : place_of w c.args.t ≡ place c.take_wait-wait.result.on = search rules in
    let waits = subst (λ (v : WaitTable). IsSome (pending v c.args.t)) (sym c.self.view_is) c.requires.waits in
    rw (c.count.ensures, c.leave.ensures, c.take_wait-wait.ensures.after, ← at) (ended_keeps w c.args.t c.args.e c.self.invariant waits)
