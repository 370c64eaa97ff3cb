-- What holds over all calls of a wheel.
use Rattle.std.specs.Prelude.{ℕ, ◌≡◌, ◌≢◌, ◌^◌, ◌<◌, ◌==◌, ◌&&◌, ◌||◌, nat_lt, Bool, true, false}
use Rattle.std.specs.Prelude.{List, [], ◌∷◌, All, AllPairs, IsSome, None, ⊤}
use Rattle.std.specs.List.{list_any}
use Rattle.tx_types.specs.Limits.{timer_limit}
use Rattle.soft_timers.specs.Timers.{TimerTable, IsWheel, IsRunning, armed, armed_for, disarmed}
use Rattle.soft_timers.specs.Timers.{ticked, due_now, still}
use Rattle.soft_timers.specs.declared.due.Armed.{Armed}

-- the calls that change what is armed between two ticks
pub data Call : Type 0 where
  Arm : (id n : ℕ) → Call
  Disarm : (id : ℕ) → Call

abbrev pub called : TimerTable → Call → TimerTable
called w (Arm id n) = armed_for w id n
called w (Disarm id) = disarmed w id

-- when a call may be made
abbrev pub MayCall : TimerTable → Call → Type 0
MayCall w (Arm id n) = (armed w id ≡ None) × (id < timer_limit) × (0 < n) × (n < 2 ^ 32)
MayCall w (Disarm id) = ⊤

-- a list of calls, each of which may be made in its turn
abbrev pub all_called : TimerTable → List Call → TimerTable
all_called w [] = w
all_called w (c ∷ cs) = all_called (called w c) cs

abbrev pub MayCallAll : TimerTable → List Call → Type 0
MayCallAll w [] = ⊤
MayCallAll w (c ∷ cs) = MayCall w c × MayCallAll (called w c) cs

-- each call keeps what holds of every wheel, and so does a tick where each has at least one left
abbrev pub CallsKeepTheWheel : Type 0
CallsKeepTheWheel = (w : TimerTable) (c : Call) → IsWheel w → MayCall w c → IsWheel (called w c)

abbrev pub TicksKeepTheWheel : Type 0
TicksKeepTheWheel =
    (w : TimerTable) → IsWheel w → IsRunning w → w.ticks < 2 ^ 63 → IsWheel (ticked w)

-- a call changes what is armed under its own number alone
abbrev pub own_number : Call → ℕ
own_number (Arm id n) = id
own_number (Disarm id) = id

abbrev pub CallsSpareOthers : Type 0
CallsSpareOthers =
    (w : TimerTable) (c : Call) (id : ℕ) → id ≢ own_number c → armed (called w c) id ≡ armed w id

abbrev pub ArmedIsThere : Type 0
ArmedIsThere = (w : TimerTable) (id n : ℕ) → IsSome (armed (armed_for w id n) id)

abbrev pub DisarmedIsNone : Type 0
DisarmedIsNone = (w : TimerTable) (id : ℕ) → armed (disarmed w id) id ≡ None

-- what is due is in order of arming
abbrev pub DueAreInOrder : Type 0
DueAreInOrder = (w : TimerTable) → IsWheel w → AllPairs (λ d e. d.arming < e.arming) (due_now w)

-- as one is listed it is still armed; once it isn't, it never is again by the same arming,
-- whatever is called
abbrev pub DueAreArmed : Type 0
DueAreArmed = (w : TimerTable) → IsWheel w → All (λ d. still w d ≡ true) (due_now w)

abbrev pub DisarmedIsOver : Type 0
DisarmedIsOver = (w : TimerTable) (d : Armed) → still (disarmed w d.id) d ≡ false

abbrev pub OverStaysOver : Type 0
OverStaysOver =
    (w : TimerTable) (d : Armed) (c : Call) → d.arming < w.armings → still w d ≡ false
    → still (called w c) d ≡ false

-- an entry is one of a list, by number and arming
abbrev pub is_among : List Armed → Armed → Bool
is_among ds e = list_any (λ d. (d.id == e.id) && (d.arming == e.arming)) ds

-- each that is armed has at least one tick left, but for those of a list
abbrev pub IsRunningBut : List Armed → TimerTable → Type 0
IsRunningBut ds w = All (λ e. (nat_lt w.ticks e.expiry || is_among ds e) ≡ true) w.entries

-- a tick leaves those without one that are due; arming and disarming adds none; each turn takes
-- its own away
abbrev pub TicksLeaveTheDue : Type 0
TicksLeaveTheDue = (w : TimerTable) → IsRunning w → IsRunningBut (due_now (ticked w)) (ticked w)

abbrev pub CallsKeepRunning : Type 0
CallsKeepRunning = (w : TimerTable) (c : Call) → MayCall w c → IsRunning w → IsRunning (called w c)

abbrev pub CallsAddNone : Type 0
CallsAddNone =
    (w : TimerTable) (ds : List Armed) (c : Call) → MayCall w c → IsRunningBut ds w
    → IsRunningBut ds (called w c)

abbrev pub TurnsTakeOne : Type 0
TurnsTakeOne =
    (w : TimerTable) (d : Armed) (ds : List Armed) → IsWheel w → still w d ≡ false
    → IsRunningBut (d ∷ ds) w → IsRunningBut ds w

abbrev pub NoneIsRunning : Type 0
NoneIsRunning = (w : TimerTable) → IsRunningBut [] w → IsRunning w

-- After a tick, once none of those that were due is still armed by the same arming, each that is
-- armed has at least one tick left.
abbrev pub RunsAfterTheTurns : Type 0
RunsAfterTheTurns =
    (w : TimerTable) (cs : List Call) → IsWheel w → IsRunning w → w.ticks < 2 ^ 63
    → MayCallAll (ticked w) cs
    → All (λ d. still (all_called (ticked w) cs) d ≡ false) (due_now (ticked w))
    → IsRunning (all_called (ticked w) cs)
