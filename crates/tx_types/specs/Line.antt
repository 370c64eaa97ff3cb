-- Parts of a printed line.
use Rattle.std.specs.Prelude.{ℕ, ◌/◌, ◌%◌, ◌^◌, List, [], ◌∷◌, map}
use Rattle.std.specs.Char.{digit_char}

-- eight lower-case hexadecimal digits of a word, the highest first
abbrev pub hex : ℕ → List ℕ
hex w = map (λ place. digit_char (w / 16 ^ place % 16)) (7 ∷ 6 ∷ 5 ∷ 4 ∷ 3 ∷ 2 ∷ 1 ∷ 0 ∷ [])

-- two lower-case hexadecimal digits of a byte
abbrev pub hex_byte : ℕ → List ℕ
hex_byte b = digit_char (b / 16 % 16) ∷ digit_char (b % 16) ∷ []
