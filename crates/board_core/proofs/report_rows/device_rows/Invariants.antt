use Rattle.std.proofs.Common.{◌≡◌}
use Rattle.board_core.specs.Report.{rows_below, device_row}
use Rattle.board_core.proofs.report_rows.device_rows.Given as goal

abbrev pub invariant-loop-d : goal.invariant-loop-d
invariant-loop-d l = l.rows.items ≡ rows_below l.d (device_row l.board l.devices)
