-- What is in the objects of the kernel, what those ask who wait for them, and where a result was
-- promised (ThreadX User Guide, "Message Queues" and "Counting Semaphores").
use Rattle.std.specs.Prelude.{ℕ, ◌≡◌, ◌≢◌, ◌*◌, ◌%◌, ◌<◌, Bool, true, false, List, [], length, Option, IfSome, is_some}
use Rattle.std.specs.Option.{option_map_or}
use Rattle.tx_types.specs.Code.{success, queue_empty, queue_full, no_instance}
use Rattle.tx_types.specs.Limits.{slot_limit}
use Rattle.tx_types.specs.declared.kind.Kind.{Kind}
use Rattle.tx_types.specs.declared.kind.Kind.TheVariants.{Queue as QueueKind, Semaphore as SemaphoreKind}
use Rattle.msg_queues.specs.Entry.{Queue}
use Rattle.msg_queues.specs.Queues.{IsQueueTable, queue_of, words_of, messages_of, room_of, pushed_back, pushed_front}
use Rattle.sync_objects.specs.Semas.{IsSemaTable, count_of}
use Rattle.object_grants.specs.Table.{slot}
use Rattle.object_grants.specs.declared.slot.Slot.{Slot}
use Rattle.region_guard.specs.Memory.{Memory, may}
use Rattle.region_guard.specs.declared.region.Access.TheVariants.{Store}
use Rattle.suspend_lists.specs.Waits.{WaitTable, wait_of}
use Rattle.suspend_lists.specs.declared.wait.Asks.{Asks}
use Rattle.suspend_lists.specs.declared.wait.Asks.TheVariants.{Sleep, Receive, Send, Instance}
use Rattle.suspend_lists.specs.declared.wait.On.{On}
use Rattle.suspend_lists.specs.declared.wait.On.TheVariants.{Object, Callbacks, Sleep as Nowhere}
use Rattle.suspend_lists.specs.declared.wait.Wait.{Wait}
use Rattle.kernel_state.specs.Kernel.{is_live_of}
use Rattle.kernel_state.specs.Waiting.{wanted_at}

-- a Live object of a kind
abbrev pub is_of : List Slot → Kind → ℕ → Bool
is_of objects kind o = is_live_of kind (slot objects o)

-- an object has a queue exactly where it is one, and what is no semaphore counts 0
pub record AreContents (objects : List Slot) (queues : List (Option Queue))
    (semas : List ℕ) : Type 0 where
  pub queue_table : IsQueueTable queues
  pub sema_table : IsSemaTable semas
  pub queue : (o : ℕ) → is_some (queue_of queues o) ≡ is_of objects QueueKind o
  pub no_sema : (o : ℕ) → is_of objects SemaphoreKind o ≡ false → count_of semas o ≡ 0

-- what is asked of an object it can't give now: a message of an empty queue, room in a full one for
-- a message of its size, an instance of a semaphore that counts 0
abbrev pub IsAskedOf : List Slot → List (Option Queue) → List ℕ → ℕ → Asks → Type 0
IsAskedOf objects queues semas o (Receive to) =
    (is_of objects QueueKind o ≡ true) × (messages_of queues o ≡ [])
IsAskedOf objects queues semas o (Send m front) =
    (is_of objects QueueKind o ≡ true) × (room_of queues o ≡ 0) × (length m ≡ words_of queues o)
IsAskedOf objects queues semas o Instance =
    (is_of objects SemaphoreKind o ≡ true) × (count_of semas o ≡ 0)
IsAskedOf objects queues semas o _ = ⊥

-- a sleep is nowhere, and any other wait at an object that can't give what it asks; nobody waits
-- for a callback yet
abbrev pub IsAskedAt : List Slot → List (Option Queue) → List ℕ → On → Asks → Type 0
IsAskedAt objects queues semas (Object o) asks =
    (o < slot_limit) × IsAskedOf objects queues semas o asks
IsAskedAt objects queues semas (Callbacks m) asks = ⊥
IsAskedAt objects queues semas Nowhere asks = asks ≡ Sleep

-- what a call answers whose time is up: a sleep did what it was asked for
abbrev pub code_of : Asks → ℕ
code_of (Receive to) = queue_empty
code_of (Send m front) = queue_full
code_of Instance = no_instance
code_of _ = success

pub record IsAsked (objects : List Slot) (queues : List (Option Queue)) (semas : List ℕ)
    (w : Wait) : Type 0 where
  pub at : IsAskedAt objects queues semas w.on w.asks
  pub code : w.code ≡ code_of w.asks

abbrev pub AreAsked : List Slot → List (Option Queue) → List ℕ → WaitTable → Type 0
AreAsked objects queues semas w = (t : ℕ) → IfSome (wait_of w t) (IsAsked objects queues semas)

-- the number of words of what a wait at a place gives: a message has those of its queue
abbrev pub result_words : List (Option Queue) → On → ℕ
result_words queues (Object o) = words_of queues o
result_words queues (Callbacks m) = 0
result_words queues Nowhere = 0

-- module m may be given the result of a wait where it was promised, and words may stand there
pub record IsPlace (g : Memory) (m n to : ℕ) : Type 0 where
  pub some : to ≢ 0
  pub aligned : to % 4 ≡ 0
  pub allowed : may g m Store to (4 * n) ≡ true

abbrev pub IsPromised : Memory → ℕ → List (Option Queue) → Wait → Type 0
IsPromised g m queues w = IfSome (wanted_at w.asks) (IsPlace g m (result_words queues w.on))

-- each result may be stored by the module that owns the slot of the thread that waits for it
abbrev pub ArePromised : Memory → List Slot → List (Option Queue) → WaitTable → Type 0
ArePromised g objects queues w =
    (t : ℕ) → IfSome (wait_of w t) (IsPromised g (slot objects t).owner queues)

-- a message goes first in a queue, or last
abbrev pub put : List (Option Queue) → ℕ → List ℕ → Bool → List (Option Queue)
put t o m true = pushed_front t o m
put t o m false = pushed_back t o m

-- the message of a sender that waits goes in as its call asked
abbrev pub put_asked : List (Option Queue) → ℕ → Asks → List (Option Queue)
put_asked t o (Send m front) = put t o m front
put_asked t o _ = t

abbrev pub entered : List (Option Queue) → ℕ → Option Wait → List (Option Queue)
entered t o w = option_map_or (λ x. put_asked t o x.asks) w t
