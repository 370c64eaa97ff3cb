-- What a core keeps: its parts are those of its session, and agree.
use Rattle.std.specs.Prelude.{◌≡◌, ◌+◌, ◌*◌, ◌≤◌, true, [], length}
use Rattle.atomic_table.specs.Seated.{TableId}
use Rattle.board_file.specs.Board.{script_words}
use Rattle.board_file.specs.Rules.{IsBoard}
use Rattle.board_core.specs.Machine.{Recorded}
use Rattle.board_core.specs.Run.{Origin}
use Rattle.event_log.specs.Events.{interrupts}
use Rattle.event_log.specs.Log.{closed, step_count}
use Rattle.event_log.specs.LogIn.{is_history}
use Rattle.irq_inbox.specs.Seen.{CpuSeen}
use Rattle.log_lane.specs.Seen.{LaneSeen, PassSeen}

-- the core of a session with this origin, inbox and lane: its machine, the inbox, the pass that
-- takes from it, the lane, and the pass that puts into it
pub record Holds (origin : Origin) (box : TableId) (line : LaneSeen) (machine : Recorded)
    (inbox : TableId) (pass : CpuSeen) (lane : LaneSeen) (put : PassSeen) : Type 0 where
  -- all are of the session
  pub began : machine.origin ≡ origin
  pub its_inbox : inbox ≡ box
  pub of_inbox : pass.inbox ≡ box
  pub its_lane : lane ≡ line
  pub of_lane : put.lane ≡ line.id
  -- the inbox was made for the board's devices, and no device's pass was gathered yet
  pub devices : pass.devices ≡ length origin.board.devices
  pub apart : pass.gathered ≡ []
  -- what was taken is in the history, and what is closed in it went into the lane
  pub taken : interrupts machine.history ≡ pass.got
  pub entries : put.entries ≡ closed machine.history
  -- the limits
  pub steps : step_count machine.history ≤ origin.board.steps
  pub most : machine.irqs ≡ script_words origin.board.devices
  pub capacity : line.most ≡ 2 * machine.irqs + 1
  pub history : is_history (length origin.board.devices) machine.history ≡ true
  pub rules : IsBoard origin.board
