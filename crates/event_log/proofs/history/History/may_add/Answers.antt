use Rattle.std.proofs.Common.{◌≡◌, ◌≤◌, ◌<◌, ◌++◌, ◌∷◌, [], arith, sym, ◌∙◌, ap, subst}
use Rattle.std.proofs.lemmas.Bool.Decides.{nat_tests}
use Rattle.event_log.specs.Log.{Log, IsEntry, IsHistory, last_steps}
use Rattle.event_log.specs.declared.entry.Entry.TheVariants.{Steps, Irq}
use Rattle.event_log.proofs.Entries.{steps-follow, steps-followed, history-irq, irq_count-append}
use Rattle.event_log.proofs.history.History.may_add.Goals as goal

pub returns-then-last_steps-eq0 : goal.returns-then-last_steps-eq0
returns-then-last_steps-eq0 c =
    let es = c.self.inside.entries.items in
    let n = c.in-Steps.n in
    let kept = c.self.invariant.0.history in
    let none : last_steps es ≡ 0 = ap last_steps (sym c.deref.ensures.value) ∙ sym c.last_steps.ensures ∙ c.if-last_steps-eq0.true in
    let one : 1 ≤ n = subst (IsEntry 16) c.in-Steps.is c.requires in
    let same : es ++ Steps n ∷ [] ≡ c.args.self.now.entries ++ c.args.e.now ∷ []
    = ap (λ (h : Log). h.entries ++ Steps n ∷ []) c.self.view_is ∙ ap (λ e. c.args.self.now.entries ++ e ∷ []) (sym c.in-Steps.is) in (
      (λ fits. subst (IsHistory 16) same (steps-follow es n kept one none (grind (arith, nat_tests, fits, kept.steps, c.self.invariant.1)))),
      (λ h. let few = (steps-followed es n (subst (IsHistory 16) (sym same) h)).1 in grind (arith, nat_tests, few, c.self.invariant.1)),
    )

pub returns-else-last_steps-eq0 : goal.returns-else-last_steps-eq0
returns-else-last_steps-eq0 c =
    let es = c.self.inside.entries.items in
    let n = c.in-Steps.n in
    let same : es ++ Steps n ∷ [] ≡ c.args.self.now.entries ++ c.args.e.now ∷ []
    = ap (λ (h : Log). h.entries ++ Steps n ∷ []) c.self.view_is ∙ ap (λ e. c.args.self.now.entries ++ e ∷ []) (sym c.in-Steps.is) in
    let is : c.last_steps.result ≡ last_steps es = c.last_steps.ensures ∙ ap last_steps c.deref.ensures.value in (
      (λ none. absurd (c.if-last_steps-eq0.false (grind (arith, nat_tests, none)))),
      (λ h. absurd (c.if-last_steps-eq0.false (is ∙ (steps-followed es n (subst (IsHistory 16) (sym same) h)).0))),
    )

pub returns-in-Irq : goal.returns-in-Irq
returns-in-Irq c =
    let es = c.self.inside.entries.items in
    let d = c.in-Irq.field-0 in
    let w = c.in-Irq.field-1 in
    let one : (d < 16) × (w < 4294967296) = subst (IsEntry 16) c.in-Irq.is c.requires in
    let same : es ++ Irq d w ∷ [] ≡ c.args.self.now.entries ++ c.args.e.now ∷ []
    = ap (λ (h : Log). h.entries ++ Irq d w ∷ []) c.self.view_is ∙ ap (λ e. c.args.self.now.entries ++ e ∷ []) (sym c.in-Irq.is) in (
      (λ less. subst (IsHistory 16) same (history-irq 16 es d w c.self.invariant.0.history one.0 one.1 (grind (arith, nat_tests, less, c.self.invariant.2)))),
      (λ h.
          let after = (subst (IsHistory 16) (sym same) h).irqs in
          grind (arith, nat_tests, after, irq_count-append es (Irq d w), c.self.invariant.2)),
    )
