-- What a machine stands for: the run of the history that it keeps, from the board and the images
-- that it keeps.
use Rattle.std.specs.Prelude.{◌≡◌, ℕ, List, All, length}
use Rattle.board_file.specs.declared.board.Board.{Board}
use Rattle.event_log.specs.Events.{words_of}
use Rattle.event_log.specs.Log.{IsEntry, step_count, irq_count}
use Rattle.event_log.specs.declared.entry.Entry.{Entry}
use Rattle.board_core.specs.Devices.{device_at}
use Rattle.board_core.specs.Laws.{IsWorld, images_in}
use Rattle.board_core.specs.Run.{Origin, run}
use Rattle.board_core.specs.Trace.{IsTallied}
use Rattle.board_core.specs.World.{World}
use Rattle.board_core.specs.declared.devices.Device.{Device}
use Rattle.board_core.specs.declared.parts.Parts.{Parts}

-- where the machine began, the events that were made on it, and for how many interrupts it has room
pub record Recorded : Type 0 where
  pub origin : Origin
  pub history : List Entry
  pub irqs : ℕ

-- the board and the images, which stand in the modules' code
abbrev pub origin_of : Board → Parts → Origin
origin_of b p = record { board = b; images = images_in p.memory p.modules }

-- the world that a machine shows by its parts and its history
abbrev pub shown : Board → Parts → List Entry → World
shown b p history = record {
  board = b;
  parts = p;
  steps = step_count history;
  irqs = irq_count history;
}

-- of each device as many interrupts were taken as the history has words of it
abbrev pub AreCounted : List Device → List Entry → Type 0
AreCounted ds history = (d : ℕ) → (device_at ds d).taken ≡ length (words_of d history)

-- the machine shows the world that the run of its history reaches, no wait was lost or ended twice
-- on the way, and its history is one of its board's devices
pub record Stands (b : Board) (p : Parts) (history : List Entry) : Type 0 where
  pub tallied : IsTallied (run (origin_of b p) history)
  pub run : (run (origin_of b p) history).now ≡ shown b p history
  pub world : IsWorld (shown b p history)
  pub its_devices : All (IsEntry (length b.devices)) history
  pub counts : AreCounted p.devices history
