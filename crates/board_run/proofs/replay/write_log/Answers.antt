use Rattle.std.proofs.Common.{◌+◌, ◌<◌, ◌++◌, length, drop, refl, sym, ap, ◌∙◌, append_assoc, arith}
use Rattle.std.proofs.KnownBytes.{Appends-trans}
use Rattle.std.proofs.lemmas.Result.{err_from_is_err_and}
use Rattle.event_log.specs.Text.{line_of, text_of}
use Rattle.board_run.proofs.ElementTexts.{text_first}
use Rattle.board_run.proofs.ModuleLines.{wrote_front}
use Rattle.board_run.proofs.replay.write_log.Goals as goal

pub returns-in_err-write-clause-wrote : goal.returns-in_err-write-clause-wrote
returns-in_err-write-clause-wrote g c =
    let at = c.loop-i in
    let entries = c.args.history.now.entries in
    let inside : at.i < length entries = omega (arith, c.loop-i-test.true, c.len-i-end.ensures.value) in
    let line = c.as_bytes.ensures.value ∙ c.as_str.ensures.value ∙ c.entry_line.ensures.bytes ∙ ap (λ b. b ++ line_of c.entry.result) c.new-line.ensures in
    let first = text_first line_of at.i (at.i + 1) entries c.entry.result c.as_bytes.result.now (omega arith) inside c.entry.ensures line in
    let (front, same, written) = at.invariant.wrote in
    let rest = text_of (drop (at.i + 1) entries) in
    let faults = g.S.Sink.faults in
    let told = g.S.Sink.written in
    let p = err_from_is_err_and c.from_residual.result c.from_residual.ensures.1 in
    wrote_front (faults c.args.sink.now) (faults at.sink) (faults c.write.new.self) (told c.args.sink.now) (told at.sink)
    (told c.write.new.self) front c.as_bytes.result.now rest (text_of entries) c.from_residual.result at.invariant.counted (rw p.1 refl)
    (ap (λ text. front ++ text) (sym first) ∙ same) written (rw p.1 c.in_err-write.ensures.wrote)

pub loop-i-preserved : goal.loop-i-preserved
loop-i-preserved g c =
    let at = c.loop-i in
    let entries = c.args.history.now.entries in
    let inside : at.i < length entries = omega (arith, c.loop-i-test.true, c.len-i-end.ensures.value) in
    let line = c.as_bytes.ensures.value ∙ c.as_str.ensures.value ∙ c.entry_line.ensures.bytes ∙ ap (λ b. b ++ line_of c.entry.result) c.new-line.ensures in
    let first = text_first line_of at.i (at.i + 1) entries c.entry.result c.as_bytes.result.now (omega arith) inside c.entry.ensures line in
    let (front, same, written) = at.invariant.wrote in
    let rest = text_of (drop (at.i + 1) entries) in
    record {
      counted = omega (arith, at.invariant.counted, c.in_ok-write.ensures.counted);
      wrote = (
        front ++ c.as_bytes.result.now,
        append_assoc front c.as_bytes.result.now rest ∙ ap (λ text. front ++ text) (sym first) ∙ same,
        Appends-trans _ (g.S.Sink.written at.sink) _ front c.as_bytes.result.now written c.in_ok-write.ensures.wrote,
      );
    }
