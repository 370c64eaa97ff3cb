use Rattle.std.proofs.Common.{◌≡◌, ◌+◌, take}
use Rattle.std.specs.List.{fold}
use Rattle.event_log.specs.Events.{events_of}
use Rattle.event_log.specs.Log.{step_count, irq_count}
use Rattle.event_log.proofs.replayer.replay.Given as goal

-- the events of the entries so far were made
abbrev pub invariant-loop-i : goal.invariant-loop-i
invariant-loop-i g l = record {
  world : g.R.Replayer.world l.r ≡ fold g.R.Replayer.next (g.R.Replayer.world l.fn.r) (events_of (take l.i l.history.entries));
  devices : g.R.Replayer.devices l.r ≡ g.R.Replayer.devices l.fn.r;
  steps_left : g.R.Replayer.steps_left l.r + step_count (take l.i l.history.entries) ≡ g.R.Replayer.steps_left l.fn.r;
  irqs_left : g.R.Replayer.irqs_left l.r + irq_count (take l.i l.history.entries) ≡ g.R.Replayer.irqs_left l.fn.r;
}
