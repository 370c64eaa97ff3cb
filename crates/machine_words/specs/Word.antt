-- Words and their bytes: memory is little-endian (RISC-V Unprivileged ISA Manual, introduction,
-- "Memory").
use Rattle.std.specs.Prelude.{ℕ, ◌+◌, ◌*◌, ◌/◌, ◌%◌, List, [], ◌∷◌, slice_index}

-- the number of four bytes, the lowest first
abbrev pub word : ℕ → ℕ → ℕ → ℕ → ℕ
word b0 b1 b2 b3 = b0 + 256 * b1 + 65536 * b2 + 16777216 * b3

-- the four bytes of a word, the lowest first
abbrev pub bytes_of_word : ℕ → List ℕ
bytes_of_word w = w % 256 ∷ (w / 256 % 256) ∷ (w / 65536 % 256) ∷ (w / 16777216 % 256) ∷ []

-- the word in the four bytes from a place on
abbrev pub word_at : List ℕ → ℕ → ℕ
word_at bytes i =
    word (slice_index bytes i) (slice_index bytes (i + 1)) (slice_index bytes (i + 2))
    (slice_index bytes (i + 3))
