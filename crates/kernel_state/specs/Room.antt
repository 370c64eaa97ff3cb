-- How far the counts of waits, armings and ticks may go, and by how much a change raises them.
use Rattle.std.specs.Prelude.{ℕ, ◌+◌, ◌-◌, ◌^◌, ◌≤◌}
use Rattle.kernel_state.specs.declared.kernel.Kernel.{Kernel}

-- Each count is at most this before whatever begins a wait, arms a timeout or ticks. No board runs
-- so long: an event raises each by fewer than 1024.
abbrev pub count_limit : ℕ
count_limit = 2 ^ 63 - 1024

pub record HasRoom (k : Kernel) : Type 0 where
  pub begun : k.waits.totals.begun ≤ count_limit
  pub armings : k.wheel.armings ≤ count_limit
  pub ticks : k.wheel.ticks ≤ count_limit

-- a change raises each count by at most n
pub record RaisesCounts (n : ℕ) (k now : Kernel) : Type 0 where
  pub begun : now.waits.totals.begun ≤ k.waits.totals.begun + n
  pub armings : now.wheel.armings ≤ k.wheel.armings + n
  pub ticks : now.wheel.ticks ≤ k.wheel.ticks + n
