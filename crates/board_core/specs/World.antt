-- The written machine's state: what the board is at a moment, as plain data.
use Rattle.std.specs.Prelude.{ℕ}
use Rattle.board_file.specs.declared.board.Board.{Board}
use Rattle.board_core.specs.declared.parts.Parts.{Parts}

pub record World : Type 0 where
  pub board : Board  -- what the board file says
  pub parts : Parts  -- what events change: the kernel, memory, the modules and the devices
  pub steps : ℕ  -- how many steps were made
  pub irqs : ℕ  -- how many interrupts were taken
