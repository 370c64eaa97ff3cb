-- A row of the table of services: its number in a7, what it does, and where it may write; and what
-- every row keeps.
use Rattle.std.specs.Prelude.{◌≡◌, ◌≢◌, ℕ, ◌*◌, ◌<◌, ◌==◌, true, Bool, List, [], ◌∷◌, length, Option, None, Some, IfSome, Result, find, if◌then◌else◌, ⊤}
use Rattle.tx_types.specs.Code.{success, suspend_lifted, feature_not_enabled}
use Rattle.tx_types.specs.State.{state_number}
use Rattle.call_arguments.specs.Pointers.{pointer_refusal}
use Rattle.call_arguments.specs.Words.{with_words}
use Rattle.object_grants.specs.Laws.{Call, Allocate, Deallocate, MakeLive, MakeEmpty, Grant, MayCall, called as slots_called}
use Rattle.object_grants.specs.declared.slot.Slot.{Slot}
use Rattle.region_guard.specs.Memory.{Memory, IsSound as IsSoundMemory}
use Rattle.region_guard.specs.declared.region.Access.TheVariants.{Store}
use Rattle.suspend_lists.specs.Wait.{place, place_count}
use Rattle.suspend_lists.specs.Waits.{wait_of}
use Rattle.suspend_lists.specs.declared.wait.Wait.{Wait}
use Rattle.tx_types.specs.declared.waits.End.TheVariants.{Satisfied}
use Rattle.kernel_state.specs.Change.{Change, quiet}
use Rattle.kernel_state.specs.Kernel.{thread, is_thread, module_of}
use Rattle.kernel_state.specs.Outcome.{Outcome, answered, answering, done, found, given, unless}
use Rattle.kernel_state.specs.Range.{Range, WritesAlone, allowed, range}
use Rattle.kernel_state.specs.Registers.{arg}
use Rattle.kernel_state.specs.Contents.{result_words}
use Rattle.kernel_state.specs.Results.{change_ranges}
use Rattle.kernel_state.specs.Room.{RaisesCounts}
use Rattle.kernel_state.specs.Serves.{Serves}
use Rattle.kernel_state.specs.Sound.{IsSound}
use Rattle.kernel_state.specs.WaitCalls.{CallsWaits, LeavesWaits}
use Rattle.kernel_state.specs.Waiting.{wait_begun, wait_ended}
use Rattle.kernel_state.specs.declared.answer.Answer.{Answer}
use Rattle.kernel_state.specs.declared.answer.Answer.TheVariants.{Code, Waits}
use Rattle.kernel_state.specs.declared.kernel.Kernel.{Kernel}

-- what a row does, and where it writes, are by the caller's thread and its arguments
pub record Row : Type 0 where
  pub number : ℕ
  pub does : Kernel → Memory → ℕ → List ℕ → Outcome
  pub writes : Kernel → ℕ → List ℕ → List Range

-- a row that writes nothing, and one that writes n bytes where an argument points
abbrev pub row : ℕ → (Kernel → Memory → ℕ → List ℕ → Outcome) → Row
row n does = record { number = n; does = does; writes = λ k by a. [] }

abbrev pub row_to : ℕ → ℕ → ℕ → (Kernel → Memory → ℕ → List ℕ → Outcome) → Row
row_to i size n does =
    record { number = n; does = does; writes = λ k by a. range (arg a i) size ∷ [] }

-- the row of a number
abbrev pub row_of : ℕ → List Row → Option Row
row_of n rows = find (λ r. r.number == n) rows

-- what a call of a number does; without a row it is refused
abbrev pub called : Option Row → Kernel → Memory → ℕ → List ℕ → Outcome
called r k g by a = found k g feature_not_enabled r (λ row. row.does k g by a)

-- what is known of a caller: it is a thread, and it is ready
pub record IsCaller (k : Kernel) (by : ℕ) : Type 0 where
  pub live : is_thread k by ≡ true
  pub state : state_number (thread k by).state ≡ 0

-- the caller has its registers afterwards
abbrev pub KeepsCaller : Kernel → ℕ → Kernel → Type 0
KeepsCaller k by now = IsCaller k by → (thread now by).hart ≡ (thread k by).hart

-- a call of the table of slots that a row may make for module m, where it is made for a module
abbrev pub IsCallFor : ℕ → Call → Type 0
IsCallFor m (Allocate n kind) = n ≡ m
IsCallFor m (Deallocate n r) = n ≡ m
IsCallFor m (Grant n o) = n ≡ m
IsCallFor m (MakeLive o name) = ⊤
IsCallFor m (MakeEmpty o) = ⊤
IsCallFor m _ = ⊥

-- one call of the table at most
abbrev pub slots_after : List Slot → Option Call → List Slot
slots_after slots None = slots
slots_after slots (Some c) = slots_called slots c

abbrev pub MayMake : ℕ → List Slot → Option Call → Type 0
MayMake m slots None = ⊤
MayMake m slots (Some c) = IsCallFor m c × MayCall slots c

-- the slots are as they were, or as one call of their table leaves them, made for the caller's
-- module
pub record KeepsSlots (k : Kernel) (by : ℕ) (now : Kernel) : Type 0 where
  pub call : Option Call
  pub slots : now.objects ≡ slots_after k.objects call
  pub may : MayMake (module_of k by) k.objects call

-- what a change keeps of the kernel's tables: the slots but for one call, the waits but for calls
-- of theirs, and their counts but for one more of each
pub record KeepsTables (k : Kernel) (by : ℕ) (c : Change) : Type 0 where
  pub slots : KeepsSlots k by c.kernel
  pub waits : IsSound k → IsCaller k by → CallsWaits k c
  pub counts : RaisesCounts 1 k c.kernel

-- an answer that isn't a refusal: any but a status that is neither SUCCESS nor SUSPEND_LIFTED
abbrev pub IsNoRefusal : Answer → Type 0
IsNoRefusal answer = (c : ℕ) → answer ≡ Code c → c ≢ success → c ≢ suspend_lifted → ⊥

-- what the outcome of a row keeps: bytes outside of its ranges and of the results of the waits that
-- it ends, all where it is a refusal, the caller's registers, and the tables
pub record IsKept (ranges : List Range) (k : Kernel) (g : Memory) (by : ℕ)
    (o : Outcome) : Type 0 where
  pub alone : IsSoundMemory g → WritesAlone (change_ranges k o.change.ends ranges) g o.change.memory
  pub refusal : (c : ℕ) → o.answer ≡ Code c → c ≢ success → c ≢ suspend_lifted → o ≡ answered k g c
  pub caller : KeepsCaller k by o.change.kernel
  pub tables : KeepsTables k by o.change

-- the caller runs, and the kernel serves
abbrev pub IsRow : Row → Type 0
IsRow r =
    (k : Kernel) (g : Memory) (by : ℕ) (a : List ℕ) → Serves k g → k.ready.run ≡ Some by
    → IsKept (allowed g (module_of k by) (r.writes k by a)) k g by (r.does k g by a)

-- who runs is a caller
abbrev pub RunningCalls : Type 0
RunningCalls = (k : Kernel) (by : ℕ) → IsSound k → k.ready.run ≡ Some by → IsCaller k by

-- the parts of a row, each of which keeps that. A refusal:
abbrev pub AnsweredIsKept : Type 0
AnsweredIsKept =
    (r : List Range) (k : Kernel) (g : Memory) (by c : ℕ) → IsKept r k g by (answered k g c)

-- a change that leaves waits and timeouts keeps the tables
abbrev pub LeftKeepsTables : Type 0
LeftKeepsTables =
    (k : Kernel) (by : ℕ) (c : Change) → LeavesWaits k c → KeepsSlots k by c.kernel
    → KeepsTables k by c

-- a change of the kernel alone
abbrev pub ChangedIsKept : Type 0
ChangedIsKept =
    (r : List Range) (k : Kernel) (g : Memory) (by : ℕ) (now : Change) (answer : Answer)
    → IsNoRefusal answer
    → now.memory ≡ g → KeepsCaller k by now.kernel → KeepsTables k by now
    → IsKept r k g by (answering now answer)

-- a wait begins, and a wait of another thread ends: its result is written where it was promised
abbrev pub BeginIsKept : Type 0
BeginIsKept =
    (r : List Range) (k : Kernel) (g : Memory) (by : ℕ) (w : Wait) (ticks : ℕ) → Serves k g
    → k.ready.run ≡ Some by → IfSome (place w.on) (λ p. p < place_count)
    → IsKept r k g by (answering (quiet (wait_begun k by w ticks) g) Waits)

abbrev pub WaitEndIsKept : Type 0
WaitEndIsKept =
    (r : List Range) (k : Kernel) (g : Memory) (by t : ℕ) (w : Wait) (m : List ℕ) → Serves k g
    → k.ready.run ≡ Some by → wait_of k.waits t ≡ Some w → length m ≡ result_words k.queues w.on
    → IsKept r k g by (done (wait_ended k g t Satisfied m))

-- more ranges may be given
abbrev pub MoreIsKept : Type 0
MoreIsKept =
    (k : Kernel) (g : Memory) (by : ℕ) (r : List Range) (o : Outcome) → IsKept [] k g by o
    → IsKept r k g by o

abbrev pub DoneIsKept : Type 0
DoneIsKept =
    (r : List Range) (k : Kernel) (g : Memory) (by : ℕ) (now : Change)
    → now.memory ≡ g → KeepsCaller k by now.kernel → KeepsTables k by now
    → IsKept r k g by (done now)

-- a change of the kernel, and words that are written to a pointer that isn't refused
abbrev pub WrittenIsKept : Type 0
WrittenIsKept =
    (k : Kernel) (g : Memory) (by : ℕ) (now : Kernel) (m x : ℕ) (ws : List ℕ) → 0 < length ws
    → pointer_refusal g m Store x (4 * length ws) ≡ None
    → KeepsCaller k by now → KeepsTables k by (quiet now (with_words g x ws))
    → IsKept (allowed g m (range x (4 * length ws) ∷ [])) k g by
    (done (quiet now (with_words g x ws)))

-- what comes after a test
abbrev pub UnlessIsKept : Type 0
UnlessIsKept =
    (r : List Range) (k : Kernel) (g : Memory) (by : ℕ) (o : Option ℕ) (change : Outcome)
    → (o ≡ None → IsKept r k g by change) → IsKept r k g by (unless k g o change)

abbrev pub FoundIsKept : Type 0 → Type 0
FoundIsKept A =
    (r : List Range) (k : Kernel) (g : Memory) (by c : ℕ) (o : Option A) (change : A → Outcome)
    → ((x : A) → o ≡ Some x → IsKept r k g by (change x)) → IsKept r k g by (found k g c o change)

abbrev pub GivenIsKept : Type 0 → Type 0
GivenIsKept A =
    (r : List Range) (k : Kernel) (g : Memory) (by : ℕ) (o : Result A ℕ) (change : A → Outcome)
    → ((x : A) → IsKept r k g by (change x)) → IsKept r k g by (given k g o change)

-- either of two outcomes
abbrev pub EitherIsKept : Type 0
EitherIsKept =
    (r : List Range) (k : Kernel) (g : Memory) (by : ℕ) (b : Bool) (x y : Outcome)
    → IsKept r k g by x → IsKept r k g by y
    → IsKept r k g by (if b then x else y)
