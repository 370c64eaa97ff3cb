-- What a move of the scheduler leaves of all threads but one.
use Rattle.std.specs.Prelude.{◌≡◌, ◌≢◌, ℕ, ◌<◌, ◌≤◌, true, false, IsSome}
use Rattle.tx_types.specs.Limits.{slot_limit}
use Rattle.ready_maps.specs.Kept.{IsKept}
use Rattle.ready_maps.specs.Moves.{readied, unreadied, yielded, threshold_set, priority_set}
use Rattle.ready_maps.specs.Sched.{Sched, pr, th, is_ready}

-- the scheduler changed for thread t alone
pub record ChangesOnly (s now : Sched) (t : ℕ) : Type 0 where
  pub kept : IsKept now
  pub levels : now.levels ≡ s.levels
  pub ready : (u : ℕ) → u ≢ t → is_ready now u ≡ is_ready s u
  pub priority : (u : ℕ) → u ≢ t → pr now u ≡ pr s u
  pub threshold : (u : ℕ) → u ≢ t → th now u ≡ th s u

-- each move does so, and of its own thread it leaves this
pub record Readies (s : Sched) (t : ℕ) : Type 0 where
  pub others : ChangesOnly s (readied s t) t
  pub ready : is_ready (readied s t) t ≡ true
  pub priority : pr (readied s t) t ≡ pr s t
  pub threshold : th (readied s t) t ≡ th s t

pub record Unreadies (s : Sched) (t : ℕ) : Type 0 where
  pub others : ChangesOnly s (unreadied s t) t
  pub ready : is_ready (unreadied s t) t ≡ false
  pub priority : pr (unreadied s t) t ≡ pr s t
  pub threshold : th (unreadied s t) t ≡ th s t

pub record Yields (s : Sched) (t : ℕ) : Type 0 where
  pub others : ChangesOnly s (yielded s) t
  pub ready : is_ready (yielded s) t ≡ is_ready s t
  pub priority : pr (yielded s) t ≡ pr s t
  pub threshold : th (yielded s) t ≡ th s t

pub record SetsThreshold (s : Sched) (t new : ℕ) : Type 0 where
  pub others : ChangesOnly s (threshold_set s t new) t
  pub ready : is_ready (threshold_set s t new) t ≡ is_ready s t
  pub priority : pr (threshold_set s t new) t ≡ pr s t
  pub threshold : th (threshold_set s t new) t ≡ new

pub record SetsPriority (s : Sched) (t p q : ℕ) : Type 0 where
  pub others : ChangesOnly s (priority_set s t p q) t
  pub ready : is_ready (priority_set s t p q) t ≡ is_ready s t
  pub priority : pr (priority_set s t p q) t ≡ p
  pub threshold : th (priority_set s t p q) t ≡ q

abbrev pub ReadyChangesOne : Type 0
ReadyChangesOne =
    (s : Sched) (t : ℕ) → IsKept s → t < slot_limit → is_ready s t ≡ false → Readies s t

abbrev pub UnreadyChangesOne : Type 0
UnreadyChangesOne = (s : Sched) (t : ℕ) → IsKept s → is_ready s t ≡ true → Unreadies s t

abbrev pub YieldChangesNone : Type 0
YieldChangesNone = (s : Sched) (t : ℕ) → IsKept s → IsSome s.run → Yields s t

abbrev pub ThresholdChangesOne : Type 0
ThresholdChangesOne =
    (s : Sched) (t threshold : ℕ) → IsKept s → t < slot_limit → threshold ≤ pr s t
    → SetsThreshold s t threshold

abbrev pub PriorityChangesOne : Type 0
PriorityChangesOne =
    (s : Sched) (t priority threshold : ℕ) → IsKept s → t < slot_limit → threshold ≤ priority
    → priority < s.levels → SetsPriority s t priority threshold
