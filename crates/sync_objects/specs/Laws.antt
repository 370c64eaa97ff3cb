-- What holds over all calls of the tables.
use Rattle.std.specs.Prelude.{ℕ, ◌≡◌, ◌≢◌, ◌<◌, ◌^◌, List, length}
use Rattle.sync_objects.specs.Semas.{IsSemaTable, count_of, with_count, removed}

-- each call keeps what holds of every table of counts
abbrev pub SetsKeepTheCounts : Type 0
SetsKeepTheCounts =
    (t : List ℕ) (o n : ℕ) → IsSemaTable t → n < 2 ^ 32 → IsSemaTable (with_count t o n)

abbrev pub RemovesKeepTheCounts : Type 0
RemovesKeepTheCounts = (t : List ℕ) (o : ℕ) → IsSemaTable t → IsSemaTable (removed t o)

-- a call changes the count of its own object alone
abbrev pub SetsSpareOthers : Type 0
SetsSpareOthers =
    (t : List ℕ) (p n o : ℕ) → o ≢ p → count_of (with_count t p n) o ≡ count_of t o

abbrev pub RemovesSpareOthers : Type 0
RemovesSpareOthers = (t : List ℕ) (p o : ℕ) → o ≢ p → count_of (removed t p) o ≡ count_of t o

-- the count of an object after its own call
abbrev pub CountIsSet : Type 0
CountIsSet = (t : List ℕ) (o n : ℕ) → o < length t → count_of (with_count t o n) o ≡ n

abbrev pub CountIsGone : Type 0
CountIsGone = (t : List ℕ) (o : ℕ) → count_of (removed t o) o ≡ 0
