-- The table of commands: what a list of words, those after the program's name, asks for.
use Rattle.std.specs.Prelude.{ℕ, ◌&&◌, nat_le, if◌then◌else◌, List, [], ◌∷◌, Option, None, Some}
use Rattle.std.specs.Prelude.{codes}
use Rattle.std.specs.Fmt.{decimal}
use Rattle.std.specs.Option.{option_map}
use Rattle.std.specs.Str.{bytes_eq}
use Rattle.std.specs.Str.Parse.{digits_value}
use Rattle.tx_types.specs.Limits.{step_limit}
use Rattle.board_run.specs.declared.command.Command.{Command}
use Rattle.board_run.specs.declared.command.Command.TheVariants as command

-- a command with its operands
pub data Row : Type 0 where
  Hart : (image : List ℕ) (most : ℕ) → Row
  Check : (board : List ℕ) → Row
  Replay : (board log : List ℕ) → Row

-- the number of a word, which is its decimal text (so no sign and no leading zero), where it is at
-- most so much
unfoldable pub number : List ℕ → (most : ℕ) → Option ℕ
number word most =
    let n = digits_value 10 word in
    if bytes_eq (decimal n) word && nat_le n most then Some n else None

-- hart IMAGE N, with N at most a hundred million
unfoldable pub hart_row : List (List ℕ) → Option Row
hart_row (image ∷ steps ∷ []) = option_map (Hart image) (number steps step_limit)
hart_row _ = None

-- check BOARD
unfoldable pub check_row : List (List ℕ) → Option Row
check_row (board ∷ []) = Some (Check board)
check_row _ = None

-- replay BOARD LOG
unfoldable pub replay_row : List (List ℕ) → Option Row
replay_row (board ∷ log ∷ []) = Some (Replay board log)
replay_row _ = None

-- the first word names the command, and each command has its own number of words
unfoldable pub row_of : List (List ℕ) → Option Row
row_of [] = None
row_of (name ∷ words) =
    if bytes_eq name (codes "hart") then hart_row words
    else if bytes_eq name (codes "check") then check_row words
    else if bytes_eq name (codes "replay") then replay_row words
    else None

-- a command as a row
abbrev pub row : Command → Row
row (command.Hart image most) = Hart image.now most
row (command.Check board) = Check board.now
row (command.Replay board log) = Replay board.now log.now
