-- What `check` finds of a board, and its text.
use Rattle.std.specs.Prelude.{◌≡◌, ℕ, ◌+◌, ◌≤◌, List, [], ◌∷◌, ◌++◌, length, Option, Result, Ok}
use Rattle.std.specs.Prelude.{codes, decimal}
use Rattle.tx_types.specs.Limits.{module_limit}
use Rattle.board_file.specs.declared.board.BoardModule.{BoardModule}
use Rattle.board_report.specs.Parts.{name_text, newline}
use Rattle.module_loader.specs.Want.{want_of}
use Rattle.module_loader.specs.declared.placement.Placed.{Placed}
use Rattle.module_loader.specs.declared.want.Want.{Want}
use Rattle.module_preamble.specs.Preamble.{preamble}
use Rattle.tx_types.specs.Line.{hex}
use Rattle.board_run.specs.Boards.{loaded_at}
use Rattle.board_run.specs.Placing.{places_in}
use Rattle.board_run.specs.Refused.{refused_image}
use Rattle.board_run.specs.Step.{◌>>=◌, each}
use Rattle.board_run.specs.declared.boards.Loaded.{Loaded}
use Rattle.board_run.specs.declared.check.Checked.{Checked}
use Rattle.board_run.specs.declared.refusal.Stop.{Stop}

-- what the module of an image wants of memory
abbrev pub want_in : ℕ → List ℕ → Result Want Stop
want_in number image = do
  p ← refused_image number (preamble image)
  Ok (want_of p)

-- the modules of a board, with what they want and where they lie
unfoldable pub checked : Loaded → Result Checked Stop
checked l = do
  wants ← each want_in 0 l.images
  places ← places_in l.board.ram wants
  Ok (record { modules = l.board.modules; wants = wants; places = places })

-- there is a want and a place for each module
pub record IsWhole (c : Checked) : Type 0 where
  pub few : length c.modules ≤ module_limit
  pub wants : length c.wants ≡ length c.modules
  pub places : length c.places ≡ length c.modules

unfoldable pub checked_at : List ℕ → (List ℕ → Option (List ℕ)) → Result Checked Stop
checked_at name at = do
  l ← loaded_at name at
  checked l

-- a module: the bases and sizes of its code and its data
unfoldable pub module_line : ℕ → BoardModule → Want → Placed → List ℕ
module_line number m want at =
    codes "module " ++ decimal number ++ codes " " ++ name_text m.name
    ++ codes " code " ++ hex at.code_base ++ codes " " ++ decimal want.code
    ++ codes " data " ++ hex at.data_base ++ codes " " ++ decimal want.data_bytes ++ newline

-- a line for each module, from a number on
abbrev pub modules_text : ℕ → List BoardModule → List Want → List Placed → List ℕ
modules_text number (m ∷ ms) (w ∷ ws) (p ∷ ps) =
    module_line number m w p ++ modules_text (number + 1) ms ws ps
modules_text number _ _ _ = []

unfoldable pub check_text : Checked → List ℕ
check_text c = modules_text 0 c.modules c.wants c.places ++ codes "ok\n"
