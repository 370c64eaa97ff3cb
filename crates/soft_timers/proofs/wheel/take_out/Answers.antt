use Rattle.std.proofs.Common.{rules, ◌==◌, not}
use Rattle.std.proofs.lemmas.Fn.{filter_same}
use Rattle.soft_timers.specs.declared.due.Armed.{Armed}
use Rattle.soft_timers.proofs.wheel.take_out.Goals as goal

pub returns-clause-items : goal.returns-clause-items
returns-clause-items c = filter_same _ (λ (e : Armed). not (e.id == c.args.id)) _ (λ e kept f call. search rules) _ _ c.retain.ensures.filtered
