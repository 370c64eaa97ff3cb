use Rattle.std.proofs.Common.{◌≡◌, ◌++◌, take, map, string_bytes}
use Rattle.board_report.specs.Parts.{graphic}
use Rattle.board_run.proofs.refusal.put_path.Given as goal

-- the bytes so far are in the text
abbrev pub invariant-loop-b : goal.invariant-loop-b
invariant-loop-b l = string_bytes l.text ≡ string_bytes l.fn.text ++ map graphic (take l.b-index l.bytes)
