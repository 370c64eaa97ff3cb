use Rattle.std.proofs.Common.{◌≡◌, ◌+◌, ◌*◌, ◌≤◌, ◌++◌, take}
use Rattle.arrayvec.specs.ArrayString.{array_string_len}
use Rattle.board_report.specs.Parts.{numbers_text}
use Rattle.board_report.proofs.parts.put_numbers.Given as goal

-- the numbers so far are in the line, each in at most four bytes
abbrev pub invariant-loop-number : goal.invariant-loop-number
invariant-loop-number l = record {
  bytes : l.line.bytes ≡ l.fn.line.bytes ++ numbers_text (take l.number-index l.numbers);
  short : array_string_len l.line ≤ array_string_len l.fn.line + 4 * l.number-index;
}
