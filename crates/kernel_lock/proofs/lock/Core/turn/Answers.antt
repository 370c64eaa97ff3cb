use Rattle.kernel_lock.proofs.Keeps.{StepLaws, IrqLaws, GotMore, step_where_keeps, take_keeps, same_pass, lane_fits}
use Rattle.kernel_lock.proofs.lock.Core.turn.Goals as goal

pub record_irq-requires-clause-fits : goal.record_irq-requires-clause-fits
record_irq-requires-clause-fits g c =
    let closes = c.an_interrupt_closes_an_entry.ensures in
    (lane_fits (record { few = closes.few; whole = closes.whole; tested = c.a_history_stays_one.ensures.tested }) _ _ _ _ _ _ _ _
    c.args.self.now.holds c.requires.room).0

pub invariant_of-self : goal.invariant_of-self
invariant_of-self g c =
    let grows = c.a_history_grows_by_one_event.ensures in
    let laws : IrqLaws = record {
      closed = c.an_interrupt_closes_an_entry.ensures.irq;
      interrupts = grows.interrupts_by_irq;
      steps = grows.steps_by_irq;
      history = c.a_history_stays_one.ensures.irq;
    } in
    let took = c.in-Some.ensures in
    let more : GotMore _ _ _ _ = record { got = took.some.0; inbox = took.same.0; devices = took.same.1; gathered = took.same.2 } in
    record {
      holds =
          take_keeps laws _ _ _ _ _ _ _ _ _ _ _ _ _ c.args.self.now.holds more took.some.1 took.fits c.requires.room c.record_irq.ensures.machine
          c.record_irq.ensures.put;
    }

pub invariant_of-self-in-None : goal.invariant_of-self-in-None
invariant_of-self-in-None g c =
    let grows = c.a_history_grows_by_one_event.ensures in
    let laws : StepLaws = record {
      closed = c.an_interrupt_closes_an_entry.ensures.step;
      interrupts = grows.interrupts_by_step;
      steps = grows.steps_by_step;
      history = c.a_history_stays_one.ensures.step;
    } in
    let kept = same_pass _ _ _ _ _ _ _ _ _ c.args.self.now.holds c.in-None.ensures.none in
    record { holds = step_where_keeps laws _ _ _ _ _ _ _ _ _ _ _ kept c.requires.steps c.step_where.ensures.answer c.step_where.ensures.machine }
