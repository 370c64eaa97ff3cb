use Rattle.std.proofs.Common.{◌≡◌, All, length}
use Rattle.board_values.specs.declared.report.ThreadRow.{ThreadRow}
use Rattle.board_core.specs.Report.{rows_found, thread_row}
use Rattle.board_core.proofs.report_rows.thread_rows.Given as goal

abbrev pub invariant-loop-t : goal.invariant-loop-t
invariant-loop-t l = (l.rows.items ≡ rows_found l.t (thread_row l.kernel)) × All (λ (t : ThreadRow). length t.regs ≡ 31) l.rows.items
