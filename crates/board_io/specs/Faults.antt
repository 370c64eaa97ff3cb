-- Counts of faults: a count stands still at its type's end, 2^64 - 1.
use Rattle.std.specs.Prelude.{ℕ, ◌+◌, ◌-◌, ◌^◌, ◌≤◌, min}

-- the count after one more
abbrev pub risen : ℕ → ℕ
risen count = min (count + 1) (2 ^ 64 - 1)

-- the count rose between before and now
abbrev pub Rose : ℕ → ℕ → Type 0
Rose before now = risen before ≤ now
