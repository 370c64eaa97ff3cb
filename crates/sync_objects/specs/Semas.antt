-- The counts of semaphores, by the number of their object, and what each call leaves of them.
use Rattle.std.specs.Prelude.{ℕ, ◌≡◌, ◌<◌, ◌^◌, List, All, length, replicate, slice_set}
use Rattle.std.specs.List.{slice_index_or}
use Rattle.tx_types.specs.Limits.{slot_limit}

-- no object is a semaphore
abbrev pub no_semas : List ℕ
no_semas = replicate slot_limit 0

-- what holds of every table
pub record IsSemaTable (t : List ℕ) : Type 0 where
  pub size : length t ≡ slot_limit
  pub each : All (λ n. n < 2 ^ 32) t

-- the count of an object
abbrev pub count_of : List ℕ → ℕ → ℕ
count_of t o = slice_index_or t o 0

-- an object has a count, and is no semaphore any more
abbrev pub with_count : List ℕ → ℕ → ℕ → List ℕ
with_count t o n = slice_set t o n

abbrev pub removed : List ℕ → ℕ → List ℕ
removed t o = with_count t o 0
