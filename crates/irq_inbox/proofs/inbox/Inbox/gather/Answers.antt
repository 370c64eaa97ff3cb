use Rattle.std.proofs.Common.{◌≡◌, ◌++◌, length, ap, sym, ◌∙◌, subst}
use Rattle.std.proofs.lemmas.List.{length-map}
use Rattle.irq_inbox.specs.Rule.{sender, known}
use Rattle.irq_inbox.proofs.Passes.{is_taker, next_of}
use Rattle.irq_inbox.proofs.Steps.{merges, totals}
use Rattle.irq_inbox.proofs.inbox.Inbox.gather.Goals as goal

pub absorb-requires-clause-rule : goal.absorb-requires-clause-rule
absorb-requires-clause-rule g c =
    let pass = c.loop-dev.pass in
    let before = c.loop-dev.yielded in
    let next = next_of _ _ _ before _ c.in-Some.dev c.requires.devs (ap (λ l. before ++ l) (sym c.in-Some.ensures.steps.0) ∙ c.loop-dev.invariant.2) in
    let all = ap (λ v. length v.known) c.loop-dev.invariant.5 ∙ length-map before (λ p. p.sent) in
    let number = ap (λ p. p.number) c.dev.view_is ∙ (next.1 ∙ sym all) in
    let other = known c.dev.inside.pass in
    merges _ _ _ _ (is_taker _ _ _ _ c.loop-dev.invariant.5) (subst (λ k. other ≡ sender k other.sent) number c.dev.invariant.1)

pub learn_as-requires-clause-rule : goal.learn_as-requires-clause-rule
learn_as-requires-clause-rule g c = totals _ _ (is_taker _ _ _ _ c.loop-dev.invariant.5)
