-- Bytes by offset, and what a write leaves of them.
use Rattle.std.specs.Prelude.{ℕ, ◌+◌, List, ◌++◌, length, take, drop, slice_index, replicate}
use Rattle.machine_words.specs.Number.{number_from, low_bytes}

-- the bytes with others in the place of those from an offset on; what would lie past the end is cut
-- off
abbrev pub over : List ℕ → ℕ → List ℕ → List ℕ
over bytes at others =
    take (length bytes) (take at bytes ++ (others ++ drop (at + length others) bytes))

-- the number in the n bytes from an offset on, the lowest first
abbrev pub number_at : List ℕ → ℕ → ℕ → ℕ
number_at bytes at n = number_from (slice_index bytes) at n

-- the low n bytes of v stand from an offset on, the lowest first
abbrev pub stored : List ℕ → ℕ → ℕ → ℕ → List ℕ
stored bytes at n v = over bytes at (low_bytes n v)

-- n zeros stand from an offset on
abbrev pub zeroed : List ℕ → ℕ → ℕ → List ℕ
zeroed bytes at n = over bytes at (replicate n 0)
