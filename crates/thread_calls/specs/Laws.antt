-- Each change that a service makes keeps a kernel sound, and one that serves, serving.
use Rattle.std.specs.Prelude.{◌≡◌, ◌≢◌, ℕ, ◌<◌, ◌≤◌, true, IsSome, List, All}
use Rattle.tx_types.specs.Limits.{slot_limit}
use Rattle.tx_types.specs.declared.kind.Kind.{Kind}
use Rattle.tx_types.specs.declared.kind.Kind.TheVariants.{Thread as ThreadKind}
use Rattle.object_grants.specs.Slot.{is_in, is_kind}
use Rattle.object_grants.specs.Table.{slot, after_allocate, after_deallocate, after_grant, with_slot}
use Rattle.object_grants.specs.declared.slot.Slot.{Slot}
use Rattle.object_grants.specs.declared.slot.SlotState.TheVariants.{Empty, Live}
use Rattle.ready_maps.specs.Moves.{yielded}
use Rattle.region_guard.specs.Memory.{Memory}
use Rattle.kernel_state.specs.Contents.{is_of}
use Rattle.kernel_state.specs.Kernel.{thread, is_live_of, is_thread, placed, removed_thread}
use Rattle.kernel_state.specs.Serves.{Serves}
use Rattle.kernel_state.specs.Sound.{IsClean, IsSound}
use Rattle.kernel_state.specs.Thread.{is_over}
use Rattle.kernel_state.specs.declared.kernel.Kernel.{Kernel}
use Rattle.kernel_state.specs.declared.thread.ThreadSpec.{ThreadSpec}
use Rattle.thread_calls.specs.Numbers.{with_user_threshold, with_user_priority, with_slice}

abbrev pub ThresholdKeepsSound : Type 0
ThresholdKeepsSound =
    (k : Kernel) (t new : ℕ) → IsSound k → is_thread k t ≡ true → new ≤ (thread k t).priority
    → IsSound (with_user_threshold k t new)

abbrev pub PriorityKeepsSound : Type 0
PriorityKeepsSound =
    (k : Kernel) (t new : ℕ) → IsSound k → is_thread k t ≡ true → new < k.ready.levels
    → IsSound (with_user_priority k t new)

abbrev pub SliceKeepsSound : Type 0
SliceKeepsSound =
    (k : Kernel) (t new : ℕ) → IsSound k → is_thread k t ≡ true → IsSound (with_slice k t new)

abbrev pub YieldKeepsSound : Type 0
YieldKeepsSound =
    (k : Kernel) (t : ℕ) → IsSound k → is_thread k t ≡ true → IsSome k.ready.run
    → IsSound (record k { ready = yielded k.ready })

abbrev pub AllocateKeepsSound : Type 0
AllocateKeepsSound =
    (k : Kernel) (m : ℕ) (kind : Kind) → IsSound k
    → IsSound (record k { objects = after_allocate k.objects m kind })

abbrev pub DeallocateKeepsSound : Type 0
DeallocateKeepsSound =
    (k : Kernel) (m r : ℕ) → IsSound k
    → IsSound (record k { objects = after_deallocate k.objects m r })

abbrev pub GrantKeepsSound : Type 0
GrantKeepsSound =
    (k : Kernel) (m o : ℕ) → IsSound k → is_in Live (slot k.objects o) ≡ true
    → IsSound (record k { objects = after_grant k.objects m o })

-- the same for a kernel that serves: memory stays as it is
abbrev pub AllocateKeepsServing : Type 0
AllocateKeepsServing =
    (k : Kernel) (g : Memory) (m : ℕ) (kind : Kind) → Serves k g
    → Serves (record k { objects = after_allocate k.objects m kind }) g

abbrev pub DeallocateKeepsServing : Type 0
DeallocateKeepsServing =
    (k : Kernel) (g : Memory) (m r : ℕ) → Serves k g
    → Serves (record k { objects = after_deallocate k.objects m r }) g

abbrev pub GrantKeepsServing : Type 0
GrantKeepsServing =
    (k : Kernel) (g : Memory) (m o : ℕ) → Serves k g → is_in Live (slot k.objects o) ≡ true
    → Serves (record k { objects = after_grant k.objects m o }) g

-- any slot changes that keeps who is an object of a kind, and its owner where it has a thread
abbrev pub SlotKeepsServing : Type 0
SlotKeepsServing =
    (k : Kernel) (g : Memory) (o : ℕ) (now : Slot) → Serves k g → o < slot_limit
    → IsClean now now.state → ((kind : Kind) → is_live_of kind now ≡ is_of k.objects kind o)
    → (is_thread k o ≡ true → now.owner ≡ (slot k.objects o).owner)
    → Serves (record k { objects = with_slot k.objects o now }) g

-- a thread is made in an Empty slot of its kind and module, and one that is over is removed
abbrev pub ThreadPlacedKeepsServing : Type 0
ThreadPlacedKeepsServing =
    (k : Kernel) (g : Memory) (o : ℕ) (name : List ℕ) (s : ThreadSpec) → Serves k g
    → is_in Empty (slot k.objects o) ≡ true → is_kind ThreadKind (slot k.objects o) ≡ true
    → s.module ≡ (slot k.objects o).owner → All (λ b. b ≢ 0) name
    → s.threshold ≤ s.priority → s.priority < k.ready.levels
    → Serves (placed k o name s) g

abbrev pub ThreadRemovedKeepsServing : Type 0
ThreadRemovedKeepsServing =
    (k : Kernel) (g : Memory) (t : ℕ) → Serves k g → is_thread k t ≡ true
    → is_over (thread k t).state ≡ true → Serves (removed_thread k t) g
