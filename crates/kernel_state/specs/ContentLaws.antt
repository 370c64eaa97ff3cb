-- Each change of what is in the objects leaves a kernel that serves; and what is known of who
-- waits.
use Rattle.std.specs.Prelude.{ℕ, ◌≡◌, ◌≢◌, ◌^◌, ◌<◌, Bool, true, false, List, [], All, length, filter, IsSome, None, Some}
use Rattle.tx_types.specs.Limits.{slot_limit}
use Rattle.tx_types.specs.declared.kind.Kind.TheVariants.{Queue as QueueKind, Semaphore as SemaphoreKind}
use Rattle.msg_queues.specs.Entry.{IsShape}
use Rattle.msg_queues.specs.Queues.{created, flushed, message_at, popped, room_of, words_of}
use Rattle.sync_objects.specs.Semas.{count_of, with_count}
use Rattle.object_grants.specs.Slot.{is_in, is_kind}
use Rattle.object_grants.specs.Table.{slot, after_make_live}
use Rattle.object_grants.specs.declared.slot.SlotState.TheVariants.{Empty, Live}
use Rattle.ready_maps.specs.Sched.{is_ready}
use Rattle.region_guard.specs.Memory.{Memory}
use Rattle.suspend_lists.specs.ThreadList.{has}
use Rattle.suspend_lists.specs.Waits.{wait_of}
use Rattle.suspend_lists.specs.declared.wait.On.TheVariants.{Object}
use Rattle.suspend_lists.specs.declared.wait.Wait.{Wait}
use Rattle.kernel_state.specs.Contents.{IsAskedOf, entered, is_of, put}
use Rattle.kernel_state.specs.Kernel.{is_thread, slot_emptied}
use Rattle.kernel_state.specs.Objects.{asks_so, asks_to_receive, asks_to_send, first_that, removed, waiters_of, without_contents}
use Rattle.kernel_state.specs.Serves.{Serves}
use Rattle.kernel_state.specs.Sound.{IsSound}
use Rattle.kernel_state.specs.ThreadLaws.{Leaves}
use Rattle.kernel_state.specs.declared.kernel.Kernel.{Kernel}

-- who waits for an object: a thread that isn't ready, and asks what the object can't give
pub record IsWaiter (k : Kernel) (o t : ℕ) : Type 0 where
  pub wait : Wait
  pub is : wait_of k.waits t ≡ Some wait
  pub on : wait.on ≡ Object o
  pub asks : IsAskedOf k.objects k.queues k.semas o wait.asks
  pub live : is_thread k t ≡ true
  pub rests : is_ready k.ready t ≡ false

abbrev pub WaiterIsOne : Type 0
WaiterIsOne = (k : Kernel) (o t : ℕ) → IsSound k → has t (waiters_of k o) ≡ true → IsWaiter k o t

-- nobody waits where there is room and the first who waits is no receiver, nor at a semaphore that
-- counts more than 0
abbrev pub NoneWaitForRoom : Type 0
NoneWaitForRoom =
    (k : Kernel) (o : ℕ) → IsSound k → 0 < room_of k.queues o
    → first_that asks_to_receive k o ≡ None → waiters_of k o ≡ []

abbrev pub NoneWaitForInstance : Type 0
NoneWaitForInstance =
    (k : Kernel) (o : ℕ) → IsSound k → is_of k.objects SemaphoreKind o ≡ true
    → 0 < count_of k.semas o → waiters_of k o ≡ []

-- a message goes in where there is room and nobody waits
abbrev pub PutKeepsServing : Type 0
PutKeepsServing =
    (k : Kernel) (g : Memory) (o : ℕ) (m : List ℕ) (front : Bool) → Serves k g
    → 0 < room_of k.queues o → length m ≡ words_of k.queues o → waiters_of k o ≡ []
    → Serves (record k { queues = put k.queues o m front }) g

-- the first message is taken where no sender waits, and else the first sender's goes in
abbrev pub PopKeepsServing : Type 0
PopKeepsServing =
    (k : Kernel) (g : Memory) (o : ℕ) → Serves k g → IsSome (message_at k.queues o 0)
    → first_that asks_to_send k o ≡ None → Serves (record k { queues = popped k.queues o }) g

abbrev pub RefillKeepsServing : Type 0
RefillKeepsServing =
    (k : Kernel) (g : Memory) (o t : ℕ) → Serves k g → first_that asks_to_send k o ≡ Some t
    → Serves (record k { queues = entered (popped k.queues o) o (wait_of k.waits t) }) g

-- all messages go where no sender waits
abbrev pub FlushKeepsServing : Type 0
FlushKeepsServing =
    (k : Kernel) (g : Memory) (o : ℕ) → Serves k g
    → filter (asks_so asks_to_send k) (waiters_of k o) ≡ []
    → Serves (record k { queues = flushed k.queues o }) g

-- a semaphore at which nobody waits has another count
abbrev pub CountKeepsServing : Type 0
CountKeepsServing =
    (k : Kernel) (g : Memory) (o n : ℕ) → Serves k g → is_of k.objects SemaphoreKind o ≡ true
    → n < 2 ^ 32 → waiters_of k o ≡ [] → Serves (record k { semas = with_count k.semas o n }) g

-- a queue, or a semaphore, is made in an Empty slot of its kind
abbrev pub queue_placed : Kernel → ℕ → List ℕ → ℕ → ℕ → Kernel
queue_placed k o name words capacity = record k {
  objects = after_make_live k.objects o name;
  queues = created k.queues o words capacity;
}

abbrev pub QueueMadeKeepsServing : Type 0
QueueMadeKeepsServing =
    (k : Kernel) (g : Memory) (o : ℕ) (name : List ℕ) (words capacity : ℕ) → Serves k g
    → o < slot_limit → is_in Empty (slot k.objects o) ≡ true
    → is_kind QueueKind (slot k.objects o) ≡ true → All (λ b. b ≢ 0) name
    → IsShape words capacity → Serves (queue_placed k o name words capacity) g

abbrev pub semaphore_placed : Kernel → ℕ → List ℕ → ℕ → Kernel
semaphore_placed k o name count = record k {
  objects = after_make_live k.objects o name;
  semas = with_count k.semas o count;
}

abbrev pub SemaphoreMadeKeepsServing : Type 0
SemaphoreMadeKeepsServing =
    (k : Kernel) (g : Memory) (o : ℕ) (name : List ℕ) (count : ℕ) → Serves k g
    → o < slot_limit → is_in Empty (slot k.objects o) ≡ true
    → is_kind SemaphoreKind (slot k.objects o) ≡ true → All (λ b. b ≢ 0) name
    → count < 2 ^ 32 → Serves (semaphore_placed k o name count) g

-- an object but a thread for which nobody waits is no object any more
abbrev pub EmptiedKeepsServing : Type 0
EmptiedKeepsServing =
    (k : Kernel) (g : Memory) (o : ℕ) → Serves k g → o < slot_limit
    → is_in Live (slot k.objects o) ≡ true → is_thread k o ≡ false → waiters_of k o ≡ []
    → Serves (slot_emptied (without_contents k o) o) g

-- an object but a thread is removed, whoever waits for it
abbrev pub RemovedKeepsServing : Type 0
RemovedKeepsServing =
    (k : Kernel) (g : Memory) (o : ℕ) → Serves k g → o < slot_limit
    → is_in Live (slot k.objects o) ≡ true → is_thread k o ≡ false → Leaves (removed k g o)
