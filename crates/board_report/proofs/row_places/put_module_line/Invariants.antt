use Rattle.std.proofs.Common.{◌≡◌, ◌<◌, [], length, drop}
use Rattle.std.specs.List.{flat_map, slice_get}
use Rattle.board_report.specs.Report.{module_lines}
use Rattle.board_report.proofs.row_places.put_module_line.Given as goal

-- the line is still empty, and the one sought is among those of the modules that are left
abbrev pub invariant-loop-row : goal.invariant-loop-row
invariant-loop-row l = record {
  empty : l.line.bytes ≡ [];
  there : l.left < length (flat_map module_lines (drop l.row-index l.rows));
  same : slice_get (flat_map module_lines l.rows) l.i ≡ slice_get (flat_map module_lines (drop l.row-index l.rows)) l.left;
}
