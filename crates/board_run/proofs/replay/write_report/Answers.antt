use Rattle.std.proofs.Common.{◌≡◌, ◌+◌, ◌<◌, List, ℕ, ◌++◌, Some, length, drop, refl, sym, ap, ◌∙◌, append_assoc, arith}
use Rattle.std.proofs.KnownBytes.{Appends-trans}
use Rattle.std.proofs.lemmas.Option.{get_or_from_slice_get}
use Rattle.std.proofs.lemmas.Result.{err_from_is_err_and}
use Rattle.std.specs.List.{flat_map, slice_get}
use Rattle.board_report.specs.Report.{report_lines}
use Rattle.board_run.specs.Replay.{report_text}
use Rattle.board_run.proofs.ElementTexts.{text_first}
use Rattle.board_run.proofs.ModuleLines.{wrote_front}
use Rattle.board_run.proofs.replay.write_report.Goals as goal

pub returns-in_err-write-clause-wrote : goal.returns-in_err-write-clause-wrote
returns-in_err-write-clause-wrote g c =
    let at = c.loop-i in
    let all = report_lines c.args.report.now in
    let text = c.as_bytes.result.now in
    let inside : at.i < length all = omega (arith, c.loop-i-test.true, c.lines-i-end.ensures) in
    let line : slice_get all at.i ≡ Some text = c.report_line.ensures ∙ ap Some (sym (c.as_bytes.ensures.value ∙ c.as_str.ensures.value)) in
    let first =
    text_first (λ (line : List ℕ). line) at.i (at.i + 1) all text text (omega arith) inside (sym (get_or_from_slice_get all at.i text text line)) refl in
    let (front, same, written) = at.invariant.wrote in
    let rest = flat_map (λ (line : List ℕ). line) (drop (at.i + 1) all) in
    let faults = g.S.Sink.faults in
    let told = g.S.Sink.written in
    let p = err_from_is_err_and c.from_residual.result c.from_residual.ensures.1 in
    wrote_front (faults c.args.sink.now) (faults at.sink) (faults c.write.new.self) (told c.args.sink.now) (told at.sink)
    (told c.write.new.self) front text rest (report_text c.args.report.now) c.from_residual.result at.invariant.counted (rw p.1 refl)
    (ap (λ t. front ++ t) (sym first) ∙ same) written (rw p.1 c.in_err-write.ensures.wrote)

pub loop-i-preserved : goal.loop-i-preserved
loop-i-preserved g c =
    let at = c.loop-i in
    let all = report_lines c.args.report.now in
    let text = c.as_bytes.result.now in
    let inside : at.i < length all = omega (arith, c.loop-i-test.true, c.lines-i-end.ensures) in
    let line : slice_get all at.i ≡ Some text = c.report_line.ensures ∙ ap Some (sym (c.as_bytes.ensures.value ∙ c.as_str.ensures.value)) in
    let first =
    text_first (λ (line : List ℕ). line) at.i (at.i + 1) all text text (omega arith) inside (sym (get_or_from_slice_get all at.i text text line)) refl in
    let (front, same, written) = at.invariant.wrote in
    let rest = flat_map (λ (line : List ℕ). line) (drop (at.i + 1) all) in
    record {
      counted = omega (arith, at.invariant.counted, c.in_ok-write.ensures.counted);
      wrote = (
        front ++ text,
        append_assoc front text rest ∙ ap (λ t. front ++ t) (sym first) ∙ same,
        Appends-trans _ (g.S.Sink.written at.sink) _ front text written c.in_ok-write.ensures.wrote,
      );
    }
