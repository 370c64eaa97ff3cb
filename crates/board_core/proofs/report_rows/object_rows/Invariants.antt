use Rattle.std.proofs.Common.{◌≡◌, All}
use Rattle.board_report.specs.Printable.{IsNumbers}
use Rattle.board_values.specs.declared.report.ObjectRow.{ObjectRow}
use Rattle.kernel_state.specs.ObjectReport.{object_row}
use Rattle.board_core.specs.Report.{rows_found}
use Rattle.board_core.proofs.report_rows.object_rows.Given as goal

abbrev pub invariant-loop-o : goal.invariant-loop-o
invariant-loop-o l = (l.rows.items ≡ rows_found l.o (object_row l.kernel)) × All (λ (o : ObjectRow). IsNumbers o.waits) l.rows.items
