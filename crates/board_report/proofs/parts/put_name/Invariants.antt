use Rattle.std.proofs.Common.{◌≡◌, ◌+◌, ◌++◌, take, map}
use Rattle.arrayvec.specs.ArrayString.{array_string_len}
use Rattle.board_report.specs.Parts.{graphic}
use Rattle.board_report.proofs.parts.put_name.Given as goal

-- the bytes so far are in the line
abbrev pub invariant-loop-b : goal.invariant-loop-b
invariant-loop-b l = record {
  bytes : l.line.bytes ≡ l.initial.line.bytes ++ map graphic (take l.b-index l.bytes);
  len : array_string_len l.line ≡ array_string_len l.initial.line + l.b-index;
}
