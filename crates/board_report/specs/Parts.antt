-- Parts of a report's lines.
use Rattle.std.specs.Prelude.{ℕ, nat_le, ◌&&◌, if◌then◌else◌, List, [], ◌∷◌, ◌++◌, Option, None}
use Rattle.std.specs.Prelude.{Some, map, codes, decimal}
use Rattle.std.specs.List.{flat_map}
use Rattle.tx_types.specs.Line.{hex}

abbrev pub newline : List ℕ
newline = codes "\n"

-- a byte of a name as it prints: a dot where it isn't a graphic character of ASCII
abbrev pub graphic : ℕ → ℕ
graphic b = if nat_le 0x21 b && nat_le b 0x7E then b else 0x2E

-- a name as it prints
abbrev pub name_text : List ℕ → List ℕ
name_text [] = codes "-"
name_text (b ∷ bs) = map graphic (b ∷ bs)

-- numbers in decimal, each after a space
abbrev pub numbers_text : List ℕ → List ℕ
numbers_text numbers = flat_map (λ n. codes " " ++ decimal n) numbers

-- words in hexadecimal, each after a space
abbrev pub words_text : List ℕ → List ℕ
words_text words = flat_map (λ word. codes " " ++ hex word) words

-- a word of memory, or dashes where there is none to see
abbrev pub cell_text : Option ℕ → List ℕ
cell_text None = codes "--------"
cell_text (Some word) = hex word

abbrev pub cells_text : List (Option ℕ) → List ℕ
cells_text cells = flat_map (λ cell. codes " " ++ cell_text cell) cells

-- the thread that runs, where one does
abbrev pub running_text : Option ℕ → List ℕ
running_text None = codes "-"
running_text (Some thread) = decimal thread

-- two numbers in decimal after a text
unfoldable pub pair_text : List ℕ → ℕ → ℕ → List ℕ
pair_text text a b = text ++ decimal a ++ codes " " ++ decimal b
