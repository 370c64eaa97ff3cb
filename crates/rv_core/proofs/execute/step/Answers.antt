use Rattle.std.proofs.Common.{sym, ◌∙◌}
use Rattle.rv_core.proofs.Effects.{effect_call}
use Rattle.rv_core.proofs.execute.step.Goals as goal

pub returns-in-Some-clause-call : goal.returns-in-Some-clause-call
returns-in-Some-clause-call g c = λ is.
    c.execute.ensures.hart ∙ effect_call c.in-Some.i (g.B.Bus.memory c.args.bus.now) c.args.hart.now (sym c.execute.ensures.out ∙ is)
