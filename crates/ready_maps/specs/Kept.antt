-- What holds of the scheduler's state after every list of moves.
use Rattle.std.specs.Prelude.{◌≡◌, ◌≢◌, ℕ, ◌<◌, ◌≤◌, [], length, All, AllPairs, Option, None, Some}
use Rattle.tx_types.specs.Limits.{slot_limit, priority_limit}
use Rattle.ready_maps.specs.Sched.{Sched, pr, th, first_at}

-- what holds whichever thread runs
pub record IsLaidOut (s : Sched) : Type 0 where
  pub threads : (length s.priority ≡ slot_limit) × (length s.threshold ≡ slot_limit)
  pub levels : (0 < s.levels) × (s.levels ≤ priority_limit)
  pub in_levels : (t : ℕ) → pr s t < s.levels
  pub thresholds : (t : ℕ) → th s t ≤ pr s t
  pub in_range : All (λ t. t < slot_limit) s.order
  pub each_once : AllPairs (λ t u. u ≢ t) s.order
  pub by_priority : AllPairs (λ t u. pr s t ≤ pr s u) s.order
  pub holders_climb : AllPairs (λ k l. pr s k < pr s l) s.held
  pub holders_are_first : All (λ k. first_at s (pr s k) ≡ Some k) s.held

-- thread r may be the running one
pub record MayRun (s : Sched) (r : ℕ) : Type 0 where
  pub is_first : first_at s (pr s r) ≡ Some r
  pub below_holders : All (λ k. pr s r < pr s k) s.held
  pub others : All (λ t. t ≢ r → th s r ≤ pr s t) s.order

abbrev pub RunsRightly : Sched → Option ℕ → Type 0
RunsRightly s None = s.order ≡ []
RunsRightly s (Some r) = MayRun s r

-- The priorities of the holders are distinct. Each holder is the first of its priority, and so is
-- the running thread, which is none exactly where nothing is ready. Its priority is below each
-- holder's. Each other ready thread has a priority at or above its threshold.
pub record IsKept (s : Sched) : Type 0 where
  pub laid_out : IsLaidOut s
  pub rightly : RunsRightly s s.run
