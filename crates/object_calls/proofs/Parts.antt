-- The laws of the layer below of which the rows are made, and changes that leave waits and timeouts.
use Rattle.std.proofs.Common.{◌≡◌, List, [], ◌∷◌, All, None, ℕ, refl}
use Rattle.std.proofs.lemmas.List.Elements.{All-cons, All-nil}
use Rattle.call_arguments.specs.Laws.{WordsAreAsMany}
use Rattle.region_guard.specs.Memory.{Memory}
use Rattle.kernel_state.specs.Change.{quiet}
use Rattle.kernel_state.specs.ContentLaws.{NoneWaitForInstance, NoneWaitForRoom, RefillKeepsServing, WaiterIsOne}
use Rattle.kernel_state.specs.Laws.{RunningIsReady}
use Rattle.kernel_state.specs.ObjectLaws.{AllEndedCallsWaits, AllEndedChangesThreads, AllEndedKeepsMemory, AllEndedRaisesNone, AllEndedSparesThreads, PrioritizedIsKept, RemovedIsKept}
use Rattle.kernel_state.specs.Row.{AnsweredIsKept, BeginIsKept, DoneIsKept, EitherIsKept, FoundIsKept, GivenIsKept, IsRow, KeepsSlots, KeepsTables, LeftKeepsTables}
use Rattle.kernel_state.specs.Row.{MoreIsKept, Row, RunningCalls, UnlessIsKept, WaitEndIsKept, WrittenIsKept}
use Rattle.kernel_state.specs.WaitLaws.{FollowedCallsWaits, LeftCallsWaits}
use Rattle.kernel_state.specs.declared.kernel.Kernel.{Kernel}

-- the end of all waits for an object
pub record AllEnds : Type 0 where
  pub calls : AllEndedCallsWaits
  pub left : LeftCallsWaits
  pub followed : FollowedCallsWaits
  pub memory : AllEndedKeepsMemory
  pub kernel : AllEndedChangesThreads
  pub threads : AllEndedSparesThreads
  pub counts : AllEndedRaisesNone

pub record Parts : Type 0 where
  pub calls : RunningCalls
  pub tables : LeftKeepsTables
  pub answered : AnsweredIsKept
  pub done : DoneIsKept
  pub written : WrittenIsKept
  pub unless : UnlessIsKept
  pub found : FoundIsKept ℕ
  pub given_name : GivenIsKept (List ℕ)
  pub either : EitherIsKept
  pub begins : BeginIsKept
  pub ends : WaitEndIsKept
  pub more : MoreIsKept
  pub removed : RemovedIsKept
  pub prioritized : PrioritizedIsKept
  pub all_ends : AllEnds
  pub waiter : WaiterIsOne
  pub none_for_room : NoneWaitForRoom
  pub none_for_instance : NoneWaitForInstance
  pub refill : RefillKeepsServing
  pub as_many : WordsAreAsMany
  pub running_is_ready : RunningIsReady

-- a change that leaves waits and timeouts, and one that leaves slots too
pub slots_alone : LeftKeepsTables → (k now : Kernel) (h : Memory) (by : ℕ) → now.waits ≡ k.waits → now.wheel ≡ k.wheel → KeepsSlots k by now
    → KeepsTables k by (quiet now h)
slots_alone left k now h by waits wheel slots = left k by (quiet now h) (record { waits = waits; wheel = wheel; ends = refl }) slots

pub tables_stay : LeftKeepsTables → (k now : Kernel) (h : Memory) (by : ℕ) → now.waits ≡ k.waits → now.wheel ≡ k.wheel → now.objects ≡ k.objects
    → KeepsTables k by (quiet now h)
tables_stay left k now h by waits wheel objects =
    left k by (quiet now h) (record { waits = waits; wheel = wheel; ends = refl }) (record { call = None; slots = objects; may = tt })

-- each row of a list, one after another: the first and the second and so on
abbrev AreRows : List Row → Type 0
AreRows [] = Unit {0}
AreRows (r ∷ rs) = IsRow r × AreRows rs

infixr 5 ◌and◌
pub ◌and◌ : {A B : Type 0} → A → B → A × B
a and b = (a, b)

pub all_rows : (rs : List Row) → AreRows rs → All IsRow rs
all_rows [] each = All-nil IsRow
all_rows (r ∷ rs) each = All-cons IsRow r rs each.0 (all_rows rs each.1)
