-- Where modules lie in RAM that is all free.
use Rattle.std.specs.Prelude.{ℕ, List, Result}
use Rattle.module_loader.specs.Placement.{placement}
use Rattle.module_loader.specs.declared.placement.Placed.{Placed}
use Rattle.module_loader.specs.declared.want.Want.{Want}
use Rattle.board_core.specs.Boot.{free_ram}
use Rattle.board_run.specs.Refused.{refused_room}
use Rattle.board_run.specs.declared.refusal.Stop.{Stop}

-- the places in RAM of the given number of bytes
abbrev pub places_in : ℕ → List Want → Result (List Placed) Stop
places_in ram wants = refused_room (placement (free_ram ram) wants)
