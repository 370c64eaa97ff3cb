-- A board and the images of its modules, by the bytes that are held under each name.
use Rattle.std.specs.Prelude.{◌≡◌, ℕ, List, length, Option, Result, Ok}
use Rattle.board_file.specs.Answer.{board_in}
use Rattle.board_file.specs.Rules.{IsBoard}
use Rattle.board_file.specs.declared.board.Board.{Board}
use Rattle.board_file.specs.declared.board.BoardModule.{BoardModule}
use Rattle.board_run.specs.Held.{most_board, file_at, image_at}
use Rattle.board_run.specs.Refused.{refused_board}
use Rattle.board_run.specs.Step.{◌>>=◌, each}
use Rattle.board_run.specs.declared.boards.Loaded.{Loaded}
use Rattle.board_run.specs.declared.refusal.Refusal.TheVariants.{BoardTooLarge}
use Rattle.board_run.specs.declared.refusal.Stop.{Stop}

-- the board in the file of a name
unfoldable pub board_at : List ℕ → (List ℕ → Option (List ℕ)) → Result Board Stop
board_at name at = do
  bytes ← file_at most_board BoardTooLarge name at
  refused_board (board_in bytes)

-- the images of modules, in their order
unfoldable pub images_at : List BoardModule → (List ℕ → Option (List ℕ))
    → Result (List (List ℕ)) Stop
images_at modules at = each (λ i m. image_at i m.image at) 0 modules

-- the board in the file of a name, with the images of its modules
unfoldable pub loaded_at : List ℕ → (List ℕ → Option (List ℕ)) → Result Loaded Stop
loaded_at name at = do
  board ← board_at name at
  images ← images_at board.modules at
  Ok (record { board = board; images = images })

-- what holds of every board that was read: its rules, and an image for each module
pub record IsLoaded (l : Loaded) : Type 0 where
  pub rules : IsBoard l.board
  pub count : length l.images ≡ length l.board.modules
