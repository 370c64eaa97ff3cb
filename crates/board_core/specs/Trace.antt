-- The trace of a board: the world that its events reached, and the waits that ended on the way.
use Rattle.std.specs.Prelude.{List, [], ◌++◌}
use Rattle.tx_types.specs.End.{WaitEnd}
use Rattle.event_log.specs.Events.{Event, Step, Irq}
use Rattle.suspend_lists.specs.Laws.{IsAccounted, IsCounted, IsWhole}
use Rattle.suspend_lists.specs.Waits.{WaitTable}
use Rattle.board_core.specs.Action.{action_made}
use Rattle.board_core.specs.After.{after}
use Rattle.board_core.specs.Step.{step_ends}
use Rattle.board_core.specs.World.{World}

pub record Traced : Type 0 where
  pub now : World
  pub ended : List WaitEnd  -- in order

-- a world before its first event
abbrev pub begun : World → Traced
begun w = record { now = w; ended = [] }

-- the waits that an event ends, in order
abbrev pub ends : World → Event → List WaitEnd
ends w Step = step_ends w.parts w.parts.kernel.ready.run
ends w (Irq d word) = (action_made w.board w.parts d word).ends

abbrev pub next : Traced → Event → Traced
next t e = record { now = after t.now e; ended = t.ended ++ ends t.now e }

-- No wait is lost and none ends twice: each number below how many began is that of one pending wait
-- or stands once among those that ended, and no other number does; each total counts those that
-- ended so; and as many began as are pending and ended.
pub record AreTallied (waits : WaitTable) (ended : List WaitEnd) : Type 0 where
  pub accounted : IsAccounted waits ended
  pub counted : IsCounted waits.totals ended
  pub whole : IsWhole waits

abbrev pub IsTallied : Traced → Type 0
IsTallied t = AreTallied t.now.parts.kernel.waits t.ended
