use Rattle.std.proofs.Common.{◌+◌, ◌++◌, drop, refl, sym, ap, ◌∙◌, append_assoc, arith}
use Rattle.std.proofs.KnownBytes.{Appends-trans}
use Rattle.std.proofs.lemmas.Result.{err_from_is_err_and}
use Rattle.board_run.specs.Check.{modules_text}
use Rattle.board_run.proofs.ModuleLines.{line_first, wrote_front}
use Rattle.board_run.proofs.check.write_modules.Goals as goal

pub returns-in_err-write-clause-wrote : goal.returns-in_err-write-clause-wrote
returns-in_err-write-clause-wrote g c =
    let at = c.loop-i in
    let line = c.as_bytes.ensures.value ∙ c.as_str.ensures.value ∙ c.module_line-line.ensures in
    let first =
    line_first at.i c.args.modules.now c.args.wants.now c.args.places.now c.index-modules-i.result _ _ c.as_bytes.result.now c.loop-i-test.true
    c.requires.wants c.requires.places c.index-modules-i.is line in
    let (front, same, written) = at.invariant.wrote in
    let rest = modules_text (at.i + 1) (drop (at.i + 1) c.args.modules.now) (drop (at.i + 1) c.args.wants.now) (drop (at.i + 1) c.args.places.now) in
    let whole = modules_text 0 c.args.modules.now c.args.wants.now c.args.places.now in
    let faults = g.S.Sink.faults in
    let told = g.S.Sink.written in
    let p = err_from_is_err_and c.from_residual.result c.from_residual.ensures.1 in
    wrote_front (faults c.args.sink.now) (faults at.sink) (faults c.write.new.self) (told c.args.sink.now) (told at.sink)
    (told c.write.new.self) front c.as_bytes.result.now rest whole c.from_residual.result at.invariant.counted (rw p.1 refl)
    (ap (λ text. front ++ text) (sym first) ∙ same) written (rw p.1 c.in_err-write.ensures.wrote)

pub loop-i-preserved : goal.loop-i-preserved
loop-i-preserved g c =
    let at = c.loop-i in
    let line = c.as_bytes.ensures.value ∙ c.as_str.ensures.value ∙ c.module_line-line.ensures in
    let first =
    line_first at.i c.args.modules.now c.args.wants.now c.args.places.now c.index-modules-i.result _ _ c.as_bytes.result.now c.loop-i-test.true
    c.requires.wants c.requires.places c.index-modules-i.is line in
    let (front, same, written) = at.invariant.wrote in
    let rest = modules_text (at.i + 1) (drop (at.i + 1) c.args.modules.now) (drop (at.i + 1) c.args.wants.now) (drop (at.i + 1) c.args.places.now) in
    record {
      counted = omega (arith, at.invariant.counted, c.in_ok-write.ensures.counted);
      wrote = (
        front ++ c.as_bytes.result.now,
        append_assoc front c.as_bytes.result.now rest ∙ ap (λ text. front ++ text) (sym first) ∙ same,
        Appends-trans _ (g.S.Sink.written at.sink) _ front c.as_bytes.result.now written c.in_ok-write.ensures.wrote,
      );
    }
