-- The words of a device among words of all devices.
use Rattle.std.specs.Prelude.{ℕ, ◌==◌, if◌then◌else◌, List, [], ◌∷◌}
use Rattle.std.specs.List.{flat_map}

-- the word of a pair that is of the device, and none of another
abbrev pub word_of : ℕ → ℕ × ℕ → List ℕ
word_of d x = if x.0 == d then x.1 ∷ [] else []

-- the words of a device in a list of pairs, in order
abbrev pub words : ℕ → List (ℕ × ℕ) → List ℕ
words d xs = flat_map (word_of d) xs
