-- The world after an event.
use Rattle.std.specs.Prelude.{◌+◌}
use Rattle.event_log.specs.Events.{Event, Step, Irq}
use Rattle.board_core.specs.Action.{interrupted}
use Rattle.board_core.specs.Step.{stepped}
use Rattle.board_core.specs.World.{World}

-- a step is counted, whether a thread runs or not, and so is an interrupt
abbrev pub after : World → Event → World
after w Step = record w { parts = stepped w.parts; steps = w.steps + 1 }
after w (Irq d word) = record w { parts = interrupted w.board w.parts d word; irqs = w.irqs + 1 }
