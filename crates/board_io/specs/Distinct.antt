-- Lists in which no two elements are the same, as a test that computes.
use Rattle.std.specs.Prelude.{Bool, true, not, ◌&&◌, List, [], ◌∷◌}
use Rattle.std.specs.List.{list_any}

-- whether all elements differ, by a test of two of them
abbrev pub all_differ : {X : Type 0} → (same : X → X → Bool) → List X → Bool
all_differ same [] = true
all_differ same (x ∷ xs) = not (list_any (same x) xs) && all_differ same xs
