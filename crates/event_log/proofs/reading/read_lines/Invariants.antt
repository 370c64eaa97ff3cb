use Rattle.std.proofs.Common.{◌≡◌, ◌++◌, length}
use Rattle.event_log.specs.Log.{IsHistory}
use Rattle.event_log.specs.Text.{text_of}
use Rattle.event_log.proofs.reading.read_lines.Given as goal

abbrev pub invariant-loop-rest : goal.invariant-loop-rest
invariant-loop-rest l = IsHistory l.devices l.history.entries × (l.bytes ≡ text_of l.history.entries ++ l.rest) × (l.history.irqs ≡ 65536)

abbrev pub decreases-loop-rest : goal.decreases-loop-rest
decreases-loop-rest l = length l.rest
