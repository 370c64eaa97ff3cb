use Rattle.std.proofs.Common.{◌≡◌}
use Rattle.board_core.specs.Report.{rows_below, show_row}
use Rattle.board_core.proofs.shows.show_rows.Given as goal

abbrev pub invariant-loop-i : goal.invariant-loop-i
invariant-loop-i l = l.rows.items ≡ rows_below l.i (show_row l.board l.guard l.modules)
