-- Where a module's threads begin.
use Rattle.std.specs.Prelude.{None}
use Rattle.kernel_state.specs.declared.spot.Spot.{Spot}

-- a module that has no place yet
abbrev pub blank_spot : Spot
blank_spot = record { shell = 0; data_base = 0; callback = None }
