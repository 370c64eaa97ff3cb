use Rattle.kernel_lock.proofs.Keeps.{StepLaws, step_keeps}
use Rattle.kernel_lock.proofs.lock.Core.step.Goals as goal

pub invariant_of-self : goal.invariant_of-self
invariant_of-self g c =
    let grows = c.a_history_grows_by_one_event.ensures in
    let laws : StepLaws = record {
      closed = c.an_interrupt_closes_an_entry.ensures.step;
      interrupts = grows.interrupts_by_step;
      steps = grows.steps_by_step;
      history = c.a_history_stays_one.ensures.step;
    } in
    record { holds = step_keeps laws _ _ _ _ _ _ _ _ _ c.args.self.now.holds c.requires c.step.ensures }
