-- Where a board with its images begins.
use Rattle.std.specs.Prelude.{ℕ, List, Option, Result}
use Rattle.board_core.specs.Boot.{boot_refusal}
use Rattle.board_core.specs.Run.{Origin}
use Rattle.board_run.specs.Boards.{loaded_at}
use Rattle.board_run.specs.Refused.{refused_boot}
use Rattle.board_run.specs.Step.{◌>>=◌}
use Rattle.board_run.specs.declared.boards.Loaded.{Loaded}
use Rattle.board_run.specs.declared.refusal.Stop.{Stop}

-- if it is booted
unfoldable pub booted_from : Loaded → Result Origin Stop
booted_from l =
    refused_boot (record { board = l.board; images = l.images }) (boot_refusal l.board l.images)

-- the same of the board in the file of a name
unfoldable pub booted_at : List ℕ → (List ℕ → Option (List ℕ)) → Result Origin Stop
booted_at name at = do
  l ← loaded_at name at
  booted_from l
