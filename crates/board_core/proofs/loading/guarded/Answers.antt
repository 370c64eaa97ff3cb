use Rattle.std.proofs.Common.{true≢false, ap, sym, ◌∙◌}
use Rattle.std.specs.Result.{is_err}
use Rattle.board_core.proofs.LoadingSteps.{added}
use Rattle.board_core.proofs.loading.guarded.Goals as goal

pub unreachable-requires : goal.unreachable-requires
unreachable-requires c =
    let step =
    added c.loop-r.guard c.add.new.self c.args.ram c.args.regions.now c.loop-r.r-index _ c.add.result c.requires c.loop-r-test.true
    c.loop-r.invariant c.add.ensures.answer c.add.ensures.after in
    true≢false (sym c.if-is_err.true ∙ (c.is_err.ensures.value ∙ ap is_err step.0))

pub loop-r-preserved : goal.loop-r-preserved
loop-r-preserved c =
    (added c.loop-r.guard c.add.new.self c.args.ram c.args.regions.now c.loop-r.r-index _ c.add.result c.requires c.loop-r-test.true
    c.loop-r.invariant c.add.ensures.answer c.add.ensures.after).1
