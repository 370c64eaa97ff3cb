-- What holds over all calls of a table of waits.
use Rattle.std.specs.Prelude.{ℕ, ◌≡◌, ◌≢◌, ◌↔◌, ◌+◌, ◌<◌, ◌≤◌, ◌==◌, nat_eq, nat_lt, Bool, true}
use Rattle.std.specs.Prelude.{false, List, [], ◌∷◌, ◌++◌, count_by, Option, None, Some, IfSome}
use Rattle.std.specs.Prelude.{IsSome, if◌then◌else◌, option_to_list, ⊤}
use Rattle.std.specs.List.{IsDistinct}
use Rattle.std.specs.Option.{option_map, option_map_or}
use Rattle.tx_types.specs.Limits.{slot_limit}
use Rattle.tx_types.specs.End.{WaitEnd}
use Rattle.tx_types.specs.declared.waits.End.{End}
use Rattle.tx_types.specs.declared.waits.End.TheVariants.{Satisfied, TimedOut, Aborted, Deleted}
use Rattle.tx_types.specs.declared.waits.End.TheVariants.{Gone}
use Rattle.tx_types.specs.declared.waits.Totals.{Totals}
use Rattle.suspend_lists.specs.ThreadList.{has, without}
use Rattle.suspend_lists.specs.Wait.{place, place_count}
use Rattle.suspend_lists.specs.Waits.{WaitTable, IsTable, IsFreeNumber, new_table, waiters, pending}
use Rattle.suspend_lists.specs.Waits.{wait_of, number_of, place_of, restored, begun, ended}
use Rattle.suspend_lists.specs.Waits.{put_first, pending_count, ended_count}
use Rattle.suspend_lists.specs.declared.wait.Pending.{Pending}
use Rattle.suspend_lists.specs.declared.wait.Wait.{Wait}

-- the calls by which waits begin, end and change their order
pub data Call : Type 0 where
  Begin : (t : ℕ) (x : Wait) → Call
  Finish : (t : ℕ) (e : End) → Call
  ToFront : (t : ℕ) → Call

abbrev pub called : WaitTable → Call → WaitTable
called w (Begin t x) = begun w t x
called w (Finish t e) = ended w t e
called w (ToFront t) = put_first w t

-- when a call may be made
abbrev pub MayCall : WaitTable → Call → Type 0
MayCall w (Begin t x) =
    (t < slot_limit) × (pending w t ≡ None) × IfSome (place x.on) (λ p. p < place_count)
MayCall w (Finish t e) = IsSome (pending w t)
MayCall w (ToFront t) = IsSome (place_of w t)

-- a list of calls, each of which may be made in its turn
abbrev pub all_called : WaitTable → List Call → WaitTable
all_called w [] = w
all_called w (c ∷ cs) = all_called (called w c) cs

abbrev pub MayCallAll : WaitTable → List Call → Type 0
MayCallAll w [] = ⊤
MayCallAll w (c ∷ cs) = MayCall w c × MayCallAll (called w c) cs

-- the waits that end by a call, and by a list of calls, in order
abbrev pub over_by : WaitTable → Call → List WaitEnd
over_by w (Begin t x) = []
over_by w (Finish t e) =
    option_to_list (option_map (λ n. record { wait = n; how = e }) (number_of w t))
over_by w (ToFront t) = []

abbrev pub all_over : WaitTable → List Call → List WaitEnd
all_over w [] = []
all_over w (c ∷ cs) = over_by w c ++ all_over (called w c) cs

-- each call keeps what holds of every table
abbrev pub CallsKeepTheTable : Type 0
CallsKeepTheTable = (w : WaitTable) (c : Call) → IsTable w → MayCall w c → IsTable (called w c)

abbrev pub TotalsKeepTheTable : Type 0
TotalsKeepTheTable =
    (w : WaitTable) (x : Totals) → IsTable w → w.totals.begun ≡ 0 → ended_count x ≤ x.begun
    → IsTable (record w { totals = x })

abbrev pub RestoresKeepTheTable : Type 0
RestoresKeepTheTable =
    (w : WaitTable) (t : ℕ) (x : Wait) (n : ℕ) → IsTable w → MayCall w (Begin t x)
    → n < w.totals.begun → IsFreeNumber w n
    → pending_count w + ended_count w.totals < w.totals.begun → IsTable (restored w t x n)

-- A thread waits at most once: it stands at no second place, once where it stands, and nowhere
-- where it sleeps or doesn't wait.
abbrev pub AtOnePlace : Type 0
AtOnePlace =
    (w : WaitTable) (p q t : ℕ) → IsTable w → has t (waiters w (Some p)) ≡ true
    → has t (waiters w (Some q)) ≡ true → p ≡ q

abbrev pub OnceThere : Type 0
OnceThere = (w : WaitTable) (p : ℕ) → IsTable w → IsDistinct nat_eq (waiters w (Some p))

abbrev pub ElseNowhere : Type 0
ElseNowhere =
    (w : WaitTable) (p t : ℕ) → IsTable w → place_of w t ≡ None → has t (waiters w (Some p)) ≡ false

-- a thread stands in the list of a place where it waits there, and nowhere else
abbrev pub StandsWhereItWaits : Type 0
StandsWhereItWaits =
    (w : WaitTable) (p t : ℕ) → IsTable w
    → (has t (waiters w (Some p)) ≡ true) ↔ (place_of w t ≡ Some p)

-- as the wait of the first thread of a place ends, the rest is left there
abbrev pub RestIsLeft : Type 0
RestIsLeft =
    (w : WaitTable) (p t : ℕ) (ts : List ℕ) (e : End) → IsTable w → waiters w (Some p) ≡ t ∷ ts
    → waiters (ended w t e) (Some p) ≡ ts

-- who waits at a place stays so as a thread ends its wait at another, begins one there or goes
-- first there
pub record OthersStay : Type 0 where
  pub end : (w : WaitTable) (t q : ℕ) (e : End) → place_of w t ≢ Some q
      → waiters (ended w t e) (Some q) ≡ waiters w (Some q)
  pub begin : (w : WaitTable) (t q : ℕ) (x : Wait) → place x.on ≢ Some q
      → waiters (begun w t x) (Some q) ≡ waiters w (Some q)
  pub first : (w : WaitTable) (t q : ℕ) → place_of w t ≢ Some q
      → waiters (put_first w t) (Some q) ≡ waiters w (Some q)

-- a thread that begins to wait at a place is the last there
abbrev pub NewWaiterIsLast : Type 0
NewWaiterIsLast =
    (w : WaitTable) (t p : ℕ) (x : Wait) → IsTable w → place x.on ≡ Some p → p < place_count
    → waiters (begun w t x) (Some p) ≡ waiters w (Some p) ++ t ∷ []

-- a thread that goes first at its place stands before the others, which keep their order
abbrev pub PutFirstIsFirst : Type 0
PutFirstIsFirst =
    (w : WaitTable) (t p : ℕ) → IsTable w → place_of w t ≡ Some p
    → waiters (put_first w t) (Some p) ≡ t ∷ without t (waiters w (Some p))

-- A thread's wait stays as another thread's wait ends or begins, and as a thread goes first. As it
-- ends, the thread is in none; as it begins, in the new one.
pub record WaitsStay : Type 0 where
  pub end : (w : WaitTable) (t u : ℕ) (e : End) → u ≢ t → wait_of (ended w t e) u ≡ wait_of w u
  pub over : (w : WaitTable) (t : ℕ) (e : End) → wait_of (ended w t e) t ≡ None
  pub begin : (w : WaitTable) (t u : ℕ) (x : Wait) → u ≢ t → wait_of (begun w t x) u ≡ wait_of w u
  pub new : (w : WaitTable) (t : ℕ) (x : Wait) → IsTable w → t < slot_limit
      → wait_of (begun w t x) t ≡ Some x
  pub first : (w : WaitTable) (t u : ℕ) → wait_of (put_first w t) u ≡ wait_of w u

-- how many began is how many are pending and how many ended
abbrev pub IsWhole : WaitTable → Type 0
IsWhole w = pending_count w + ended_count w.totals ≡ w.totals.begun

abbrev pub CallsKeepItWhole : Type 0
CallsKeepItWhole =
    (w : WaitTable) (c : Call) → IsTable w → MayCall w c → IsWhole w → IsWhole (called w c)

-- how often the wait of a number ended, and how many threads are in it
abbrev pub times : ℕ → List WaitEnd → ℕ
times n over = count_by (λ d. d.wait == n) over

abbrev pub has_number : ℕ → Option Pending → Bool
has_number n o = option_map_or (λ p. p.number == n) o false

abbrev pub pending_times : WaitTable → ℕ → ℕ
pending_times w n = count_by (has_number n) w.waits

-- Each number below how many began is that of one pending wait, or of one that ended; no other
-- number is of either.
abbrev pub IsAccounted : WaitTable → List WaitEnd → Type 0
IsAccounted w over =
    (n : ℕ) → pending_times w n + times n over ≡ (if nat_lt n w.totals.begun then 1 else 0)

abbrev pub CallsAccount : Type 0
CallsAccount =
    (w : WaitTable) (over : List WaitEnd) (c : Call) → IsTable w → MayCall w c → IsAccounted w over
    → IsAccounted (called w c) (over ++ over_by w c)

-- whatever was called since a table was new
abbrev pub HistoriesAccount : Type 0
HistoriesAccount =
    (cs : List Call) → MayCallAll new_table cs
    → IsAccounted (all_called new_table cs) (all_over new_table cs)

-- the number that the next wait gets is of no pending wait and of none that ended
abbrev pub NextNumberIsNew : Type 0
NextNumberIsNew =
    (w : WaitTable) (over : List WaitEnd) → IsAccounted w over
    → (pending_times w w.totals.begun ≡ 0) × (times w.totals.begun over ≡ 0)

-- the ends, by numbers that tell them apart
abbrev pub end_number : End → ℕ
end_number Satisfied = 0
end_number TimedOut = 1
end_number Aborted = 2
end_number Deleted = 3
end_number Gone = 4

-- how many waits ended so
abbrev pub ended_so : End → List WaitEnd → ℕ
ended_so e over = count_by (λ d. end_number d.how == end_number e) over

-- each total is the number of waits that ended so
pub record IsCounted (x : Totals) (over : List WaitEnd) : Type 0 where
  pub satisfied : x.satisfied ≡ ended_so Satisfied over
  pub timed_out : x.timed_out ≡ ended_so TimedOut over
  pub aborted : x.aborted ≡ ended_so Aborted over
  pub deleted : x.deleted ≡ ended_so Deleted over
  pub gone : x.gone ≡ ended_so Gone over

abbrev pub CallsCount : Type 0
CallsCount =
    (w : WaitTable) (over : List WaitEnd) (c : Call) → MayCall w c → IsCounted w.totals over
    → IsCounted (called w c).totals (over ++ over_by w c)

abbrev pub HistoriesCount : Type 0
HistoriesCount =
    (cs : List Call) → MayCallAll new_table cs
    → IsCounted (all_called new_table cs).totals (all_over new_table cs)
