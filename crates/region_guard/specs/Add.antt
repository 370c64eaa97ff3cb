-- A region that is added, and why it may be refused.
use Rattle.std.specs.Prelude.{ℕ, ◌==◌, [], ◌∷◌, ◌++◌, length, Option, Some, None, Result, Ok, Err}
use Rattle.std.specs.Prelude.{position, if◌then◌else◌}
use Rattle.tx_types.specs.Limits.{region_limit}
use Rattle.region_guard.specs.Memory.{Memory}
use Rattle.region_guard.specs.Region.{meets}
use Rattle.region_guard.specs.declared.guard.AddErr.{AddErr}
use Rattle.region_guard.specs.declared.guard.AddErr.TheVariants.{Full, Overlap}
use Rattle.region_guard.specs.declared.region.Region.{Region}

-- refused where it meets a region, by that region's place
abbrev pub unless_met : Option ℕ → Result (Unit {0}) AddErr
unless_met None = Ok tt
unless_met (Some i) = Err (Overlap i)

-- no region goes into full memory, nor one that meets another: the first that it meets is named
abbrev pub add_answer : Memory → Region → Result (Unit {0}) AddErr
add_answer g r =
    if length g.regions == region_limit then Err Full else unless_met (position (meets r) g.regions)

-- an added region goes last; a refusal changes nothing
abbrev pub after_add : Memory → Region → Result (Unit {0}) AddErr → Memory
after_add g r (Ok done) = record g { regions = g.regions ++ r ∷ [] }
after_add g r (Err refusal) = g
