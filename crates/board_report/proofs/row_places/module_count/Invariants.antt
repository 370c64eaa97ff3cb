use Rattle.std.proofs.Common.{◌≡◌, ◌*◌, ◌≤◌, length, take}
use Rattle.std.specs.List.{flat_map}
use Rattle.board_report.specs.Report.{module_lines}
use Rattle.board_report.proofs.row_places.module_count.Given as goal

-- the lines so far are counted, at most two for each module
abbrev pub invariant-loop-row : goal.invariant-loop-row
invariant-loop-row l = record {
  count : l.count ≡ length (flat_map module_lines (take l.row-index l.rows));
  small : l.count ≤ 2 * l.row-index;
}
