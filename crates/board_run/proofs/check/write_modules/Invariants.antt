use Rattle.std.proofs.Common.{◌≡◌, ℕ, ◌≤◌, List, ◌++◌, drop}
use Rattle.std.specs.Io.KnownBytes.{Appends}
use Rattle.board_run.specs.Check.{modules_text}
use Rattle.board_run.proofs.check.write_modules.Given as goal

-- what was written, and then the lines of the modules that are left, is the whole text
abbrev pub invariant-loop-i : goal.invariant-loop-i
invariant-loop-i g l = record {
  counted : g.S.Sink.faults l.fn.sink ≤ g.S.Sink.faults l.sink;
  wrote : (front : List ℕ) × (front ++ modules_text l.i (drop l.i l.modules) (drop l.i l.wants) (drop l.i l.places) ≡ modules_text 0 l.modules l.wants l.places)
      × Appends (g.S.Sink.written l.fn.sink) (g.S.Sink.written l.sink) front;
}
