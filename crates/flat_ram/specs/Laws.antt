-- What every write has in common: its range changes, and every other byte stays.
use Rattle.std.specs.Prelude.{◌≡◌, ◌⊎◌, ℕ, ◌+◌, ◌/◌, ◌%◌, ◌^◌, ◌<◌, ◌≤◌, List, length, slice_index}
use Rattle.machine_words.specs.Number.{number_from, low_bytes}
use Rattle.flat_ram.specs.Ram.{over, number_at, stored}

-- a place lies before the n places from a place on, or after them
abbrev pub IsOutside : ℕ → ℕ → ℕ → Type 0
IsOutside at n k = (k < at) ⊎ (at + n ≤ k)

-- a write keeps how many bytes there are
abbrev pub LengthStays : Type 0
LengthStays = (bytes others : List ℕ) (at : ℕ) → length (over bytes at others) ≡ length bytes

-- outside of the range each byte stays
abbrev pub OthersStay : Type 0
OthersStay =
    (bytes others : List ℕ) (at k : ℕ) → IsOutside at (length others) k
    → slice_index (over bytes at others) k ≡ slice_index bytes k

-- in the range stand the bytes that were written
abbrev pub RangeIsWritten : Type 0
RangeIsWritten =
    (bytes others : List ℕ) (at k : ℕ) → at + length others ≤ length bytes → k < length others
    → slice_index (over bytes at others) (at + k) ≡ slice_index others k

-- a number of no byte in the range stays
abbrev pub NumbersStay : Type 0
NumbersStay =
    (bytes others : List ℕ) (at n from : ℕ) → (from + n ≤ at) ⊎ (at + length others ≤ from)
    → number_at (over bytes at others) from n ≡ number_at bytes from n

-- a stored number has as many bytes as its width
abbrev pub WidthIsLength : Type 0
WidthIsLength = (n v : ℕ) → length (low_bytes n v) ≡ n

-- byte k of a stored number, where byte 0 is the lowest
abbrev pub LowestFirst : Type 0
LowestFirst = (n v k : ℕ) → k < n → slice_index (low_bytes n v) k ≡ v / 256 ^ k % 256

-- a number is made of its own bytes alone, wherever they stand
abbrev pub SameBytesSameNumber : Type 0
SameBytesSameNumber =
    (byte other : ℕ → ℕ) (a b n : ℕ) → ((k : ℕ) → k < n → byte (a + k) ≡ other (b + k))
    → number_from byte a n ≡ number_from other b n

-- a stored number is read back, cut to its width
abbrev pub ReadsBack : Type 0
ReadsBack =
    (bytes : List ℕ) (at n v : ℕ) → at + n ≤ length bytes
    → number_at (stored bytes at n v) at n ≡ v % 256 ^ n
