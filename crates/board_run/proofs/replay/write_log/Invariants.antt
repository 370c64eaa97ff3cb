use Rattle.std.proofs.Common.{◌≡◌, ℕ, ◌≤◌, List, ◌++◌, drop}
use Rattle.std.specs.Io.KnownBytes.{Appends}
use Rattle.event_log.specs.Text.{text_of}
use Rattle.board_run.proofs.replay.write_log.Given as goal

-- what was written, and then the lines of the entries that are left, is the whole text
abbrev pub invariant-loop-i : goal.invariant-loop-i
invariant-loop-i g l = record {
  counted : g.S.Sink.faults l.fn.sink ≤ g.S.Sink.faults l.sink;
  wrote : (front : List ℕ) × (front ++ text_of (drop l.i l.history.entries) ≡ text_of l.history.entries)
      × Appends (g.S.Sink.written l.fn.sink) (g.S.Sink.written l.sink) front;
}
