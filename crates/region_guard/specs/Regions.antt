-- Regions, and once more those of each module.
use Rattle.std.specs.Prelude.{◌≡◌, ℕ, ◌<◌, List, [], ◌∷◌, ◌++◌, length, if◌then◌else◌}
use Rattle.std.specs.List.{filter, slice_index_or}
use Rattle.tx_types.specs.Limits.{module_limit}
use Rattle.region_guard.specs.Region.{is_for}
use Rattle.region_guard.specs.declared.region.Region.{Region}

-- each module has the list of its own regions, in order
pub record AreOwn (regions : List Region) (own : List (List Region)) : Type 0 where
  pub modules : length own ≡ module_limit
  pub each : (m : ℕ) → m < module_limit → slice_index_or own m [] ≡ filter (is_for m) regions

-- the list of module m with a region that is added to all
abbrev pub added : ℕ → Region → List Region → List Region
added m r list = if is_for m r then list ++ r ∷ [] else list
