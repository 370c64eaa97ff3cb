use Rattle.std.proofs.Common.{◌≡◌, ◌++◌, ◌∷◌, [], sym, subst}
use Rattle.event_log.specs.Log.{IsHistory}
use Rattle.event_log.proofs.Entries.{history-wider}
use Rattle.event_log.proofs.Lines.{next-line}
use Rattle.event_log.proofs.reading.next_entry.Goals as goal

pub returns-in_err-e : goal.returns-in_err-e
returns-in_err-e c =
    rw c.from_residual.ensures (λ e more h is.
    let next = next-line c.args.devices c.line_len-n.result c.args.history.now.entries e c.args.text.now more c.requires c.line_len-n.ensures.line h is in
    absurd (cc (c.in_err-e.ensures.found e next.lawful next.small next.line)))

pub returns-else-may_add : goal.returns-else-may_add
returns-else-may_add c = λ e more h is.
    let next = next-line c.args.devices c.line_len-n.result c.args.history.now.entries e c.args.text.now more c.requires c.line_len-n.ensures.line h is in
    let found = c.in_ok-e.ensures.found e next.lawful next.small next.line in
    let same : c.in_ok-e.e ≡ e = cc in
    let wider = history-wider c.args.devices (c.args.history.now.entries ++ e ∷ []) c.requires h in
    let no = c.if-may_add.ensures.1 (subst (λ f. IsHistory 16 (c.args.history.now.entries ++ f ∷ [])) (sym same) wider) in
    absurd cc
