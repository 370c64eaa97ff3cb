use Rattle.std.proofs.Common.{◌≡◌, ◌≤◌, true, length, ℕ, List, Option}
use Rattle.std.specs.Io.KnownBytes.{Appends}
use Rattle.event_log.specs.Text.{text_of}
use Rattle.board_serve.specs.Got.{Counted}
use Rattle.board_serve.proofs.writer.write_closed.Given as goal

-- what was got so far is counted and written
abbrev pub invariant-loop : goal.invariant-loop
invariant-loop g l = record {
  get : (l.get.live ≡ true) × (l.get.lane ≡ l.lane.id);
  length : length l.counts ≡ length l.fn.counts;
  counted : Counted l.fn.counts l.fn.get.entries → Counted l.counts l.get.entries;
  faults : g.S.Sink.faults l.fn.sink ≤ g.S.Sink.faults l.sink;
  wrote : (start : Option (List ℕ)) → Appends start (g.S.Sink.written l.fn.sink) (text_of l.fn.get.entries)
      → Appends start (g.S.Sink.written l.sink) (text_of l.get.entries);
}
