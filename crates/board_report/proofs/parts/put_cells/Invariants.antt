use Rattle.std.proofs.Common.{◌≡◌, ◌+◌, ◌*◌, ◌++◌, take}
use Rattle.arrayvec.specs.ArrayString.{array_string_len}
use Rattle.board_report.specs.Parts.{cells_text}
use Rattle.board_report.proofs.parts.put_cells.Given as goal

-- the words so far are in the line, each in nine bytes
abbrev pub invariant-loop-cell : goal.invariant-loop-cell
invariant-loop-cell l = record {
  bytes : l.line.bytes ≡ l.fn.line.bytes ++ cells_text (take l.cell-index l.cells);
  len : array_string_len l.line ≡ array_string_len l.fn.line + 9 * l.cell-index;
}
