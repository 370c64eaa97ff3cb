use Rattle.std.proofs.Common.{◌≡◌, ◌+◌, replicate}
use Rattle.std.specs.List.{fold}
use Rattle.event_log.specs.Events.{Step}
use Rattle.event_log.proofs.replayer.Replayer.steps.Given as goal

-- the given number of steps were made
abbrev pub invariant-loop : goal.invariant-loop
invariant-loop g l = record {
  world : g.Self.Replayer.world l.self ≡ fold g.Self.Replayer.next (g.Self.Replayer.world l.fn.self) (replicate l.counter Step);
  devices : g.Self.Replayer.devices l.self ≡ g.Self.Replayer.devices l.fn.self;
  steps_left : g.Self.Replayer.steps_left l.self + l.counter ≡ g.Self.Replayer.steps_left l.fn.self;
  irqs_left : g.Self.Replayer.irqs_left l.self ≡ g.Self.Replayer.irqs_left l.fn.self;
}
