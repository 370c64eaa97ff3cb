-- The five moves of the scheduler, and how a state is set up anew. Where a thread stands after a
-- change is this board's own rule.
use Rattle.std.specs.Prelude.{ℕ, ◌==◌, nat_lt, List, [], ◌∷◌, slice_set, Option, None, Some}
use Rattle.std.specs.Prelude.{if◌then◌else◌}
use Rattle.std.specs.List.{list_any}
use Rattle.ready_maps.specs.Sched.{Sched, pr, th, without, last_in, first_in, is_ready, runs, best}
use Rattle.ready_maps.specs.Sched.{pick}

-- a thread that is ready no longer
abbrev pub taken_out : Sched → ℕ → Sched
taken_out s t = record s { order = without t s.order; held = without t s.held }

-- a ready thread that isn't in the order yet goes last, or first, of its priority
abbrev pub placed_last : Sched → ℕ → Sched
placed_last s t = record s { order = last_in (pr s) t s.order }

abbrev pub placed_first : Sched → ℕ → Sched
placed_first s t = record s { order = first_in (pr s) t s.order }

-- a preempted thread joins the holders, where its threshold is below its priority
abbrev pub holding : Sched → ℕ → Sched
holding s t = if nat_lt (th s t) (pr s t) then record s { held = first_in (pr s) t s.held } else s

-- a ready thread runs where nothing does, or where its priority is below the running thread's
-- threshold
abbrev pub challenged : Sched → ℕ → Option ℕ → Sched
challenged s t None = record s { run = Some t }
challenged s t (Some r) =
    if nat_lt (pr s t) (th s r) then record (holding s r) { run = Some t } else s

-- Ready: the thread goes last
abbrev pub readied : Sched → ℕ → Sched
readied s t = challenged (placed_last s t) t s.run

-- Unready
abbrev pub unreadied : Sched → ℕ → Sched
unreadied s t = if runs s t then pick (taken_out s t) else taken_out s t

-- Yield: the running thread goes last
abbrev pub yielded_by : Sched → Option ℕ → Sched
yielded_by s None = s
yielded_by s (Some r) = pick (placed_last (record s { order = without r s.order }) r)

abbrev pub yielded : Sched → Sched
yielded s = yielded_by s s.run

-- the running thread gives way to the best one, where that has a priority below its threshold
abbrev pub giving_way : Sched → ℕ → Option ℕ → Sched
giving_way s t None = s
giving_way s t (Some b) =
    if nat_lt (pr s b) (th s t) then record (holding s t) { run = Some b } else s

-- a threshold at the priority itself holds nothing
abbrev pub released : Sched → ℕ → Sched
released s t = if th s t == pr s t then record s { held = without t s.held } else s

abbrev pub with_threshold : Sched → ℕ → ℕ → Sched
with_threshold s t threshold = record s { threshold = slice_set s.threshold t threshold }

-- SetTh: a new threshold
abbrev pub threshold_set : Sched → ℕ → ℕ → Sched
threshold_set s t threshold =
    let now = with_threshold s t threshold in
    if runs s t then giving_way now t (best now) else released now t

abbrev pub with_numbers : Sched → ℕ → ℕ → ℕ → Sched
with_numbers s t priority threshold =
    record s {
      priority = slice_set s.priority t priority;
      threshold = slice_set s.threshold t threshold;
    }

-- the thread that ran goes first and is preempted, but after a holder of its priority it goes last
abbrev pub placed_again : Sched → ℕ → Sched
placed_again s t =
    if list_any (λ k. pr s k == pr s t) s.held then placed_last s t
    else holding (placed_first s t) t

-- SetPr: a new priority and threshold; a ready thread that doesn't run is as readied anew
abbrev pub priority_set : Sched → ℕ → ℕ → ℕ → Sched
priority_set s t priority threshold =
    if runs s t then pick (placed_again (with_numbers (taken_out s t) t priority threshold) t)
    else (if is_ready s t then readied (with_numbers (taken_out s t) t priority threshold) t
    else with_numbers s t priority threshold)

-- a state that is set up anew: its ready threads go last one after another
abbrev pub placed_all : Sched → List ℕ → Sched
placed_all s [] = s
placed_all s (t ∷ ts) = placed_all (placed_last s t) ts

abbrev pub restored : Sched → List ℕ → Option ℕ → List ℕ → Sched
restored s ready run held = record (placed_all s ready) { run = run; held = held }
