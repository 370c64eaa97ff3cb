-- What `check` says of a board is what the boot makes of it.
use Rattle.std.specs.Prelude.{◌≡◌, Option, None, Some, Result, Ok, Err, IfOk}
use Rattle.board_core.specs.Boot.{places}
use Rattle.board_run.specs.Check.{checked}
use Rattle.board_run.specs.Booting.{booted_from}
use Rattle.board_run.specs.declared.boards.Loaded.{Loaded}
use Rattle.board_run.specs.declared.refusal.Stop.{Stop}

-- why a step of a call stopped
abbrev pub stopped : {A : Type 0} → Result A Stop → Option Stop
stopped (Ok x) = None
stopped (Err stop) = Some stop

-- `check` stops exactly where the boot of the same board does, and for the same cause
abbrev pub StopsAlike : Type 0
StopsAlike = (l : Loaded) → stopped (checked l) ≡ stopped (booted_from l)

-- and else finds the places where the boot puts the modules
abbrev pub LiesAlike : Type 0
LiesAlike = (l : Loaded) → IfOk (checked l) (λ c. places l.board l.images ≡ Ok c.places)
