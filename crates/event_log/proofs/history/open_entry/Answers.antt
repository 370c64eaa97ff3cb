use Rattle.std.proofs.Common.{◌∷◌, ◌++◌, [], ◌∙◌, sym, ap, Some}
use Rattle.event_log.specs.Log.{closed}
use Rattle.event_log.proofs.Closed.{closed-steps, closed-by-irq}
use Rattle.event_log.proofs.history.open_entry.Goals as goal

pub returns-in-Steps : goal.returns-in-Steps
returns-in-Steps c =
    closed-steps c.args.entries.now c.in-Steps.field-0 (sym c.in_ok-last.ensures.value ∙ ap (λ e. Some e) c.in-Steps.is)
    ∙ ap (λ e. closed c.args.entries.now ++ e ∷ []) (sym c.in-Steps.is)

pub returns-in-Irq : goal.returns-in-Irq
returns-in-Irq c =
    closed-by-irq c.args.entries.now c.in-Irq.field-0 c.in-Irq.field-1 (sym c.in_ok-last.ensures.value ∙ ap (λ e. Some e) c.in-Irq.is)
