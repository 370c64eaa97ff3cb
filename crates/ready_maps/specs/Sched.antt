-- The scheduler's state (ThreadX User Guide, "Preemption-Threshold"), and which thread is the next
-- to run.
use Rattle.std.specs.Prelude.{ℕ, ◌==◌, Bool, false, nat_le, nat_lt, not, List, ◌∷◌, ◌++◌, drop}
use Rattle.std.specs.Prelude.{slice_index, filter, find, Option, None, Some, if◌then◌else◌, []}
use Rattle.std.specs.Prelude.{replicate}
use Rattle.std.specs.List.{slice_get, list_any, after_first}
use Rattle.std.specs.Option.{option_map_or}
use Rattle.tx_types.specs.Limits.{slot_limit}

-- Each thread has a priority, 0 the most urgent, and a threshold: a thread of a priority below it
-- may preempt. The holders are the ready threads that were preempted so, and that run again before
-- others of their urgency.
pub record Sched : Type 0 where
  pub levels : ℕ  -- how many priorities there are
  pub priority : List ℕ  -- by thread
  pub threshold : List ℕ  -- by thread
  pub order : List ℕ  -- the ready threads by priority, and in their order within one
  pub run : Option ℕ  -- the running thread, one of them
  pub held : List ℕ  -- the holders among them, by priority

-- no thread is ready, and each priority and threshold is 0
abbrev pub new_sched : ℕ → Sched
new_sched levels = record {
  levels = levels;
  priority = replicate slot_limit 0;
  threshold = replicate slot_limit 0;
  order = [];
  run = None;
  held = [];
}

-- the priority of a thread, and its threshold
abbrev pub pr : Sched → ℕ → ℕ
pr s t = slice_index s.priority t

abbrev pub th : Sched → ℕ → ℕ
th s t = slice_index s.threshold t

-- whether a thread stands in a list, and the list without it
abbrev pub has : ℕ → List ℕ → Bool
has t ts = list_any (λ u. u == t) ts

abbrev pub without : ℕ → List ℕ → List ℕ
without t ts = filter (λ u. not (u == t)) ts

-- a thread is put in after the threads of its priority, or before them
abbrev pub last_in : (ℕ → ℕ) → ℕ → List ℕ → List ℕ
last_in by t ts = filter (λ u. nat_le (by u) (by t)) ts ++ t ∷ filter (λ u. nat_lt (by t) (by u)) ts

abbrev pub first_in : (ℕ → ℕ) → ℕ → List ℕ → List ℕ
first_in by t ts =
    filter (λ u. nat_lt (by u) (by t)) ts ++ t ∷ filter (λ u. nat_le (by t) (by u)) ts

abbrev pub is_ready : Sched → ℕ → Bool
is_ready s t = has t s.order

abbrev pub is_held : Sched → ℕ → Bool
is_held s t = has t s.held

abbrev pub runs : Sched → ℕ → Bool
runs s t = option_map_or (λ r. r == t) s.run false

-- the first ready thread of a priority, and the next of the same priority after a ready thread
abbrev pub first_at : Sched → ℕ → Option ℕ
first_at s p = find (λ u. pr s u == p) s.order

abbrev pub after : Sched → ℕ → Option ℕ
after s t = find (λ u. pr s u == pr s t) (after_first (λ u. u == t) s.order)

-- the most urgent ready thread
abbrev pub best : Sched → Option ℕ
best s = slice_get s.order 0

-- The first holder runs again where no ready thread has a priority below its threshold, and else
-- the best thread runs.
abbrev pub picked_before : Sched → ℕ → Option ℕ → Sched
picked_before s h None = record s { run = Some h }
picked_before s h (Some k) =
    if nat_le (th s k) (pr s h) then record s { run = Some k; held = drop 1 s.held }
    else record s { run = Some h }

abbrev pub picked : Sched → Option ℕ → Sched
picked s None = record s { run = None }
picked s (Some h) = picked_before s h (slice_get s.held 0)

abbrev pub pick : Sched → Sched
pick s = picked s (best s)
