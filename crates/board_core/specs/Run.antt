-- The run of a history: the trace of a board by the events that were made on it.
use Rattle.std.specs.Prelude.{ℕ, List, fold}
use Rattle.board_file.specs.declared.board.Board.{Board}
use Rattle.event_log.specs.Events.{events_of}
use Rattle.event_log.specs.declared.entry.Entry.{Entry}
use Rattle.board_core.specs.Boot.{booted}
use Rattle.board_core.specs.Trace.{Traced, begun, next}

-- the board, and the images of its modules in its order
pub record Origin : Type 0 where
  pub board : Board
  pub images : List (List ℕ)

abbrev pub run : Origin → List Entry → Traced
run o history = fold next (begun (booted o.board o.images)) (events_of history)
