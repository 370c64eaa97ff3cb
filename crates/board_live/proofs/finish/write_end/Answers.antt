use Rattle.std.proofs.lemmas.Result.{err_from_is_err_and}
use Rattle.board_live.proofs.Texts.{prefix_longer, report_failed}
use Rattle.board_live.proofs.finish.write_end.Goals as goal

pub returns-in_err-write_open-clause-wrote : goal.returns-in_err-write_open-clause-wrote
returns-in_err-write_open-clause-wrote g c =
    let p = err_from_is_err_and c.from_residual.result c.from_residual.ensures.1 in
    let (rose, written) = c.in_err-write_open.ensures.wrote in
    rw (p.1, p.2) (rose, prefix_longer _ _ _ _ written)

pub returns-in_err-write_report-clause-wrote : goal.returns-in_err-write_report-clause-wrote
returns-in_err-write_report-clause-wrote g c =
    let residual = c.from_residual-in_err-write_report in
    let p = err_from_is_err_and residual.result residual.ensures.1 in
    let m = c.args.machine.now in
    let line = c.in_ok-write_open.ensures in
    rw (p.1, p.2) (report_failed m.origin m.history c.in_ok-report.report _ _ _ _ _ _
    line.faults line.wrote c.in_ok-report.ensures.report c.in_err-write_report.ensures.wrote)
