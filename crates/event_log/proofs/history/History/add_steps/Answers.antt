use Rattle.std.proofs.Common.{◌+◌, ◌≤◌, arith, subst, sym}
use Rattle.event_log.specs.Log.{Log, step_count}
use Rattle.event_log.proofs.Entries.{sound_steps, sound-few}
use Rattle.event_log.proofs.EventLists.{step_count-with_steps, irq_count-with_steps}
use Rattle.event_log.proofs.history.History.add_steps.Goals as goal

pub put_steps-requires-clause-room : goal.put_steps-requires-clause-room
put_steps-requires-clause-room c =
    let few = subst (λ (h : Log). step_count h.entries + c.args.n ≤ 100000000) (sym c.self.view_is) c.requires in
    let after = sound_steps c.args.n c.self.inside.entries.items c.self.inside.irqs c.self.invariant.0 few in
    omega (arith, sound-few _ _ after)

pub invariant_of-self : goal.invariant_of-self
invariant_of-self c =
    let es = c.self.inside.entries.items in
    let few = subst (λ (h : Log). step_count h.entries + c.args.n ≤ 100000000) (sym c.self.view_is) c.requires in
    let after = sound_steps c.args.n es c.self.inside.irqs c.self.invariant.0 few in
    rw c.put_steps.ensures.items (
      after,
      omega (arith, step_count-with_steps c.args.n es),
      omega (arith, irq_count-with_steps c.args.n es),
      omega arith,
    )
