-- What a move leaves as it was: which threads are ready, and the numbers of threads.
use Rattle.std.specs.Prelude.{◌≡◌, ℕ, ◌==◌, ◌&&◌, ◌||◌, not, slice_set}
use Rattle.ready_maps.specs.Sched.{Sched, is_ready}
use Rattle.ready_maps.specs.Moves.{readied, unreadied, yielded, threshold_set, priority_set}
use Rattle.ready_maps.specs.Kept.{IsKept}

-- a state has the numbers of another
pub record SameNumbers (s now : Sched) : Type 0 where
  pub levels : now.levels ≡ s.levels
  pub priority : now.priority ≡ s.priority
  pub threshold : now.threshold ≡ s.threshold

-- Ready adds its thread to the ready ones, Unready takes it away, and no other move changes which
-- threads are ready
abbrev pub ReadyAddsOne : Type 0
ReadyAddsOne = (s : Sched) (t u : ℕ) → is_ready (readied s t) u ≡ (u == t) || is_ready s u

abbrev pub UnreadyTakesOne : Type 0
UnreadyTakesOne = (s : Sched) (t u : ℕ) → is_ready (unreadied s t) u ≡ not (u == t) && is_ready s u

abbrev pub YieldKeepsReady : Type 0
YieldKeepsReady = (s : Sched) (u : ℕ) → IsKept s → is_ready (yielded s) u ≡ is_ready s u

abbrev pub ThresholdKeepsReady : Type 0
ThresholdKeepsReady =
    (s : Sched) (t threshold u : ℕ) → is_ready (threshold_set s t threshold) u ≡ is_ready s u

abbrev pub PriorityKeepsReady : Type 0
PriorityKeepsReady =
    (s : Sched) (t priority threshold u : ℕ) → IsKept s
    → is_ready (priority_set s t priority threshold) u ≡ is_ready s u

-- Ready, Unready and Yield change no number; the others change those of their thread alone
abbrev pub ReadyKeepsNumbers : Type 0
ReadyKeepsNumbers = (s : Sched) (t : ℕ) → SameNumbers s (readied s t)

abbrev pub UnreadyKeepsNumbers : Type 0
UnreadyKeepsNumbers = (s : Sched) (t : ℕ) → SameNumbers s (unreadied s t)

abbrev pub YieldKeepsNumbers : Type 0
YieldKeepsNumbers = (s : Sched) → SameNumbers s (yielded s)

abbrev pub ThresholdSetsNumbers : Type 0
ThresholdSetsNumbers =
    (s : Sched) (t threshold : ℕ)
    → SameNumbers (record s { threshold = slice_set s.threshold t threshold })
    (threshold_set s t threshold)

abbrev pub PrioritySetsNumbers : Type 0
PrioritySetsNumbers =
    (s : Sched) (t priority threshold : ℕ)
    → SameNumbers (record s {
      priority = slice_set s.priority t priority;
      threshold = slice_set s.threshold t threshold;
    }) (priority_set s t priority threshold)
