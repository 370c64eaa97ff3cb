use Rattle.std.proofs.Common.{◌≡◌, List, ◌++◌, ◌∷◌, [], sym, ap, subst, ◌∙◌}
use Rattle.std.proofs.KnownBytes.{Appends-nil}
use Rattle.std.specs.Io.KnownBytes.{Appends}
use Rattle.board_io.specs.Sink.{Wrote}
use Rattle.event_log.specs.Log.{closed}
use Rattle.event_log.specs.Text.{line_of}
use Rattle.event_log.specs.declared.entry.Entry.{Entry}
use Rattle.board_live.proofs.Texts.{none_open, one_open}
use Rattle.board_live.proofs.finish.write_open.Goals as goal

pub returns-in_default-clause-wrote : goal.returns-in_default-clause-wrote
returns-in_default-clause-wrote g c =
    let told = g.S.Sink.written c.args.sink.now in
    let all = subst (λ (es : List Entry). closed es ≡ es) c.history.ensures.history c.in_default.ensures in
    subst (Appends told told) (sym (none_open c.an_interrupt_closes_an_entry.ensures.whole c.args.machine.now.history all)) (Appends-nil told)

pub returns-clause-wrote : goal.returns-clause-wrote
returns-clause-wrote g c =
    let e = c.in-Some.open in
    let faults = g.S.Sink.faults in
    let told = g.S.Sink.written in
    let last = subst (λ (es : List Entry). es ≡ closed es ++ e ∷ []) c.history.ensures.history c.in-Some.ensures in
    let line = c.as_bytes.ensures.value ∙ c.as_str.ensures.value ∙ c.entry_line.ensures.bytes ∙ ap (λ b. b ++ line_of e) c.new-line.ensures in
    let text = line ∙ sym (one_open c.an_interrupt_closes_an_entry.ensures.whole c.args.machine.now.history e last) in
    subst (λ t. Wrote (faults c.args.sink.now) (faults c.write.new.self) (told c.args.sink.now) (told c.write.new.self) t c.write.result) text
    c.write.ensures.wrote
