use Rattle.std.proofs.Common.{◌≡◌, ℕ, ◌<◌, length, subst, sym, ap, ◌∙◌, IsSome, Some, Option, None}
use Rattle.std.proofs.lemmas.List.{get_or_read}
use Rattle.std.specs.Option.{option_and_then}
use Rattle.suspend_lists.specs.Wait.{place}
use Rattle.suspend_lists.specs.Waits.{WaitTable, pending, place_of}
use Rattle.suspend_lists.specs.declared.wait.Pending.{Pending}
use Rattle.suspend_lists.proofs.Kept.{put_first_keeps}
use Rattle.suspend_lists.proofs.waits.Waits.to_front.Goals as goal

pub invariant_of-self : goal.invariant_of-self
invariant_of-self c =
    let w : WaitTable = record { totals = c.self.inside.totals; lists = c.self.inside.lists.items; waits = c.self.inside.waits.items } in
    let inside : c.place.result < length w.waits = subst (λ (n : ℕ). c.place.result < n) (sym c.self.invariant.threads) c.place.ensures.below_256 in
    let read = get_or_read w.waits c.place.result c.index.result.now inside c.index.ensures None in
    let here : pending w c.args.t ≡ Some c.in-Some.p = subst (λ (i : ℕ). pending w i ≡ Some c.in-Some.p) c.place.ensures.same (sym read ∙ c.in-Some.is) in
    let at : place_of w c.args.t ≡ place c.in-Some.p.wait.on = ap (λ (o : Option Pending). option_and_then (λ p. place p.wait.on) o) here in
    let waits = subst (λ (v : WaitTable). IsSome (place_of v c.args.t)) (sym c.self.view_is) c.requires.waits in
    rw (c.go_first.ensures, ← at) (put_first_keeps w c.args.t c.self.invariant waits)
