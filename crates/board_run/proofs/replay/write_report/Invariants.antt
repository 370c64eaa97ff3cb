use Rattle.std.proofs.Common.{◌≡◌, ℕ, ◌≤◌, List, ◌++◌, drop}
use Rattle.std.specs.Io.KnownBytes.{Appends}
use Rattle.std.specs.List.{flat_map}
use Rattle.board_report.specs.Report.{report_lines}
use Rattle.board_run.specs.Replay.{report_text}
use Rattle.board_run.proofs.replay.write_report.Given as goal

-- what was written, and then the lines that are left, is the whole text
abbrev pub invariant-loop-i : goal.invariant-loop-i
invariant-loop-i g l = record {
  counted : g.S.Sink.faults l.fn.sink ≤ g.S.Sink.faults l.sink;
  wrote : (front : List ℕ) × (front ++ flat_map (λ line. line) (drop l.i (report_lines l.report)) ≡ report_text l.report)
      × Appends (g.S.Sink.written l.fn.sink) (g.S.Sink.written l.sink) front;
}
