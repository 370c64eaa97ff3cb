-- The waits of all threads: who waits where, in order, for what; and how many began and ended.
use Rattle.std.specs.Prelude.{ℕ, ◌≡◌, ◌≢◌, ◌+◌, ◌<◌, ◌≤◌, ◌==◌, nat_eq, Bool, false, List, [], ◌∷◌}
use Rattle.std.specs.Prelude.{◌++◌, length, replicate, count_by, slice_get, slice_set, is_some}
use Rattle.std.specs.Prelude.{Option, None, Some}
use Rattle.std.specs.List.{slice_index_or, IsDistinct}
use Rattle.std.specs.Option.{option_map, option_map_or, option_and_then}
use Rattle.tx_types.specs.Limits.{slot_limit}
use Rattle.tx_types.specs.declared.waits.End.{End}
use Rattle.tx_types.specs.declared.waits.End.TheVariants.{Satisfied, TimedOut, Aborted, Deleted}
use Rattle.tx_types.specs.declared.waits.End.TheVariants.{Gone}
use Rattle.tx_types.specs.declared.waits.Totals.{Totals}
use Rattle.suspend_lists.specs.ThreadList.{has, without, next_after}
use Rattle.suspend_lists.specs.Wait.{place, place_count}
use Rattle.suspend_lists.specs.declared.wait.On.{On}
use Rattle.suspend_lists.specs.declared.wait.Pending.{Pending}
use Rattle.suspend_lists.specs.declared.wait.Wait.{Wait}

pub record WaitTable : Type 0 where
  pub totals : Totals  -- how many waits began, and how many ended in each way
  pub lists : List (List ℕ)  -- by place, the threads that wait there, in order
  pub waits : List (Option Pending)  -- by thread, the wait that it is in

-- no thread waits, and none ever did
abbrev pub new_table : WaitTable
new_table = record {
  totals = record { begun = 0; satisfied = 0; timed_out = 0; aborted = 0; deleted = 0; gone = 0 };
  lists = replicate place_count [];
  waits = replicate slot_limit None;
}

-- the wait that a thread is in, with its number; the two parts of it, and the place of the wait
abbrev pub pending : WaitTable → ℕ → Option Pending
pending w t = slice_index_or w.waits t None

abbrev pub wait_of : WaitTable → ℕ → Option Wait
wait_of w t = option_map (λ p. p.wait) (pending w t)

abbrev pub number_of : WaitTable → ℕ → Option ℕ
number_of w t = option_map (λ p. p.number) (pending w t)

abbrev pub place_of : WaitTable → ℕ → Option ℕ
place_of w t = option_and_then (λ p. place p.wait.on) (pending w t)

-- the threads that wait at a place, in order
abbrev pub waiters_in : List (List ℕ) → Option ℕ → List ℕ
waiters_in lists None = []
waiters_in lists (Some p) = slice_index_or lists p []

abbrev pub waiters : WaitTable → Option ℕ → List ℕ
waiters w p = waiters_in w.lists p

abbrev pub first_at : WaitTable → On → Option ℕ
first_at w on = slice_get (waiters w (place on)) 0

abbrev pub after : WaitTable → ℕ → Option ℕ
after w t = next_after t (waiters w (place_of w t))

-- the list of one place becomes ts, and all others stay
abbrev pub with_waiters : List (List ℕ) → Option ℕ → List ℕ → List (List ℕ)
with_waiters lists None ts = lists
with_waiters lists (Some p) ts = slice_set lists p ts

-- a thread goes last at a place, leaves it, or goes first there
abbrev pub joined : List (List ℕ) → Option ℕ → ℕ → List (List ℕ)
joined lists p t = with_waiters lists p (waiters_in lists p ++ t ∷ [])

abbrev pub left : List (List ℕ) → Option ℕ → ℕ → List (List ℕ)
left lists p t = with_waiters lists p (without t (waiters_in lists p))

abbrev pub put_ahead : List (List ℕ) → Option ℕ → ℕ → List (List ℕ)
put_ahead lists p t = with_waiters lists p (t ∷ without t (waiters_in lists p))

-- one wait more ended so
abbrev pub counted : Totals → End → Totals
counted x Satisfied = record x { satisfied = x.satisfied + 1 }
counted x TimedOut = record x { timed_out = x.timed_out + 1 }
counted x Aborted = record x { aborted = x.aborted + 1 }
counted x Deleted = record x { deleted = x.deleted + 1 }
counted x Gone = record x { gone = x.gone + 1 }

-- a thread is in a wait of a number, last at its place
abbrev pub restored : WaitTable → ℕ → Wait → ℕ → WaitTable
restored w t x n = record w {
  lists = joined w.lists (place x.on) t;
  waits = slice_set w.waits t (Some (record { wait = x; number = n }));
}

-- one wait more began
abbrev pub one_more : WaitTable → WaitTable
one_more w = record w { totals = record w.totals { begun = w.totals.begun + 1 } }

-- a thread begins to wait: the number is how many began before
abbrev pub begun : WaitTable → ℕ → Wait → WaitTable
begun w t x = restored (one_more w) t x w.totals.begun

-- the wait of a thread ends
abbrev pub ended : WaitTable → ℕ → End → WaitTable
ended w t e = record w {
  totals = counted w.totals e;
  lists = left w.lists (place_of w t) t;
  waits = slice_set w.waits t None;
}

-- a thread goes first at its place
abbrev pub put_first : WaitTable → ℕ → WaitTable
put_first w t = record w { lists = put_ahead w.lists (place_of w t) t }

-- how many threads wait, and how many waits ended
abbrev pub pending_count : WaitTable → ℕ
pending_count w = count_by is_some w.waits

abbrev pub ended_count : Totals → ℕ
ended_count x = x.satisfied + x.timed_out + x.aborted + x.deleted + x.gone

-- no thread is in the wait of a number
abbrev pub IsFreeNumber : WaitTable → ℕ → Type 0
IsFreeNumber w n = (t : ℕ) → number_of w t ≢ Some n

-- a thread waits at a place
abbrev pub waits_at : WaitTable → ℕ → ℕ → Bool
waits_at w p t = option_map_or (λ q. q == p) (place_of w t) false

-- What holds of every table. A thread stands in the list of the place at which it waits, once, and
-- in no other. Each wait has a number of its own, below how many began.
pub record IsTable (w : WaitTable) : Type 0 where
  pub places : length w.lists ≡ place_count
  pub threads : length w.waits ≡ slot_limit
  pub each_once : (p : ℕ) → IsDistinct nat_eq (waiters w (Some p))
  pub at_its_place : (p t : ℕ) → has t (waiters w (Some p)) ≡ waits_at w p t
  pub numbers_below : (t n : ℕ) → number_of w t ≡ Some n → n < w.totals.begun
  pub numbers_apart : (t u n : ℕ) → number_of w t ≡ Some n → number_of w u ≡ Some n → t ≡ u
  pub counts : pending_count w + ended_count w.totals ≤ w.totals.begun
