use Rattle.std.proofs.Common.{◌≡◌}
use Rattle.board_core.specs.Report.{rows_below, module_row}
use Rattle.board_core.proofs.report_rows.module_rows.Given as goal

abbrev pub invariant-loop-m : goal.invariant-loop-m
invariant-loop-m l = l.rows.items ≡ rows_below l.m (module_row l.board l.modules)
