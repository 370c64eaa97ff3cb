use Rattle.std.proofs.Common.{◌<◌, [], ◌∷◌, arith, length-append, subst, sym}
use Rattle.event_log.specs.Log.{Log, irq_count}
use Rattle.event_log.specs.declared.entry.Entry.TheVariants.{Irq}
use Rattle.event_log.proofs.Entries.{sound_irq, sound-few, irq_count-append, step_count-append}
use Rattle.event_log.proofs.history.History.add_irq.Goals as goal

pub push_reserved-requires : goal.push_reserved-requires
push_reserved-requires c =
    let es = c.self.inside.entries.items in
    let less : irq_count es < c.self.inside.irqs = subst (λ (h : Log). irq_count h.entries < h.irqs) (sym c.self.view_is) c.requires in
    let after = sound_irq es c.args.d c.args.w c.self.inside.irqs c.self.invariant.0 (omega (arith, c.number.ensures)) (omega arith) less in
    omega (arith, sound-few _ _ after, length-append es (Irq c.args.d c.args.w ∷ []))

pub invariant_of-self : goal.invariant_of-self
invariant_of-self c =
    let es = c.self.inside.entries.items in
    let d = c.args.d in
    let w = c.args.w in
    let less : irq_count es < c.self.inside.irqs = subst (λ (h : Log). irq_count h.entries < h.irqs) (sym c.self.view_is) c.requires in
    let after = sound_irq es d w c.self.inside.irqs c.self.invariant.0 (omega (arith, c.number.ensures)) (omega arith) less in
    rw c.push_reserved.ensures.items (
      after,
      omega (arith, step_count-append es (Irq d w)),
      omega (arith, irq_count-append es (Irq d w)),
      omega arith,
    )
