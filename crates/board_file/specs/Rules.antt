-- What holds of every board that is read, for the layers above.
use Rattle.std.specs.Prelude.{◌≡◌, ℕ, ◌%◌, ◌<◌, ◌≤◌, All, length}
use Rattle.tx_types.specs.Limits.{module_limit, device_limit, show_limit, cell_limit, step_limit}
use Rattle.tx_types.specs.Limits.{interrupt_limit}
use Rattle.board_file.specs.Board.{script_words}
use Rattle.board_file.specs.declared.board.Board.{Board}
use Rattle.board_file.specs.declared.board.BoardShow.{BoardShow}

-- a show of one of the given number of modules
pub record IsShow (modules : ℕ) (s : BoardShow) : Type 0 where
  pub «module» : s.«module» < modules
  pub offset : s.offset ≤ 16777212
  pub aligned : s.offset % 4 ≡ 0
  pub some_words : 1 ≤ s.words
  pub few_words : s.words ≤ cell_limit

pub record IsBoard (b : Board) : Type 0 where
  pub least_ram : 4096 ≤ b.ram
  pub most_ram : b.ram ≤ 16777216
  pub ram_aligned : b.ram % 32 ≡ 0
  pub steps : b.steps ≤ step_limit
  pub some_module : 1 ≤ length b.modules
  pub modules : length b.modules ≤ module_limit
  pub devices : length b.devices ≤ device_limit
  pub scripts : script_words b.devices ≤ interrupt_limit
  pub shows : length b.shows ≤ show_limit
  pub shown : All (IsShow (length b.modules)) b.shows
