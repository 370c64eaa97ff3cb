-- What a step of a placement came to.
use Rattle.std.specs.Prelude.{◌≡◌, ℕ, ◌+◌, ◌<◌, ◌^◌, List, All, Option, Some, None}
use Rattle.module_loader.specs.Placement.{Taken, PlacedOne}
use Rattle.module_loader.specs.declared.placement.Placed.{Placed}
use Rattle.module_loader.specs.declared.placement.Range.{Range}

-- all addresses are words, and so are those right after the ranges
abbrev pub IsAddressable : List Range → Type 0
IsAddressable free = All (λ r. r.base + r.size < 2 ^ 32) free

-- memory was taken at a base and so much stays free, or none could be taken
abbrev pub IsTaken : Option Taken → Option ℕ → List Range → Type 0
IsTaken due None free = due ≡ None
IsTaken due (Some base) free = due ≡ Some (record { base = base; free = free })

-- a module was placed and so much stays free, or it couldn't be placed
abbrev pub IsPlacedOne : Option PlacedOne → Option Placed → List Range → Type 0
IsPlacedOne due None free = due ≡ None
IsPlacedOne due (Some placed) free = due ≡ Some (record { placed = placed; free = free })
