-- The kernel's state: object slots, threads, the scheduler, where each module's threads begin,
-- waits, timeouts and the clock.
use Rattle.std.specs.Prelude.{ℕ, ◌==◌, ◌&&◌, Bool, min, List, [], slice_set, replicate, Option, None, Some, if◌then◌else◌}
use Rattle.std.specs.List.{slice_index_or}
use Rattle.tx_types.specs.Limits.{module_limit, priority_count, slot_limit}
use Rattle.tx_types.specs.declared.kind.Kind.{Kind}
use Rattle.tx_types.specs.declared.kind.Kind.TheVariants.{Thread as ThreadKind}
use Rattle.msg_queues.specs.Queues.{no_queues}
use Rattle.sync_objects.specs.Semas.{no_semas}
use Rattle.object_grants.specs.Slot.{free_slot, is_in, is_kind}
use Rattle.object_grants.specs.Table.{slot, after_make_live, after_make_empty}
use Rattle.object_grants.specs.declared.slot.Slot.{Slot}
use Rattle.object_grants.specs.declared.slot.SlotState.TheVariants.{Live}
use Rattle.ready_maps.specs.Moves.{priority_set}
use Rattle.ready_maps.specs.Sched.{new_sched}
use Rattle.soft_timers.specs.Timers.{no_timers}
use Rattle.suspend_lists.specs.Waits.{new_table}
use Rattle.kernel_state.specs.Spot.{blank_spot}
use Rattle.kernel_state.specs.Thread.{blank_thread, new_thread}
use Rattle.kernel_state.specs.declared.kernel.Kernel.{Kernel}
use Rattle.kernel_state.specs.declared.spot.Spot.{Spot}
use Rattle.kernel_state.specs.declared.thread.Thread.{Thread}
use Rattle.kernel_state.specs.declared.thread.ThreadSpec.{ThreadSpec}

abbrev pub thread : Kernel → ℕ → Thread
thread k t = slice_index_or k.threads t blank_thread

abbrev pub with_thread : Kernel → ℕ → Thread → Kernel
with_thread k t now = record k { threads = slice_set k.threads t now }

-- the module of a thread
abbrev pub module_of : Kernel → ℕ → ℕ
module_of k t = (thread k t).module

-- whether a slot has an object of a kind, and a thread
abbrev pub is_live_of : Kind → Slot → Bool
is_live_of kind s = is_in Live s && is_kind kind s

abbrev pub has_thread : Slot → Bool
has_thread s = is_live_of ThreadKind s

abbrev pub is_thread : Kernel → ℕ → Bool
is_thread k t = has_thread (slot k.objects t)

-- where a module's threads begin
abbrev pub spot : Kernel → ℕ → Spot
spot k m = slice_index_or k.spots m blank_spot

abbrev pub with_spot : Kernel → ℕ → Spot → Kernel
with_spot k m now = record k { spots = slice_set k.spots m now }

-- the priority that a thread has in the scheduler, and its threshold, which is never above it
unfoldable pub effective_priority : Kernel → ℕ → ℕ
effective_priority k t = (thread k t).priority

unfoldable pub effective_threshold : Kernel → ℕ → ℕ
effective_threshold k t = min (thread k t).threshold (effective_priority k t)

-- a thread is made in a slot: suspended, with its numbers in the scheduler
abbrev pub made_thread : Kernel → ℕ → ThreadSpec → Kernel
made_thread k t s =
    record k {
      threads = slice_set k.threads t (new_thread s);
      ready = priority_set k.ready t s.priority s.threshold;
    }

-- a thread's object is created in a slot, with its name
abbrev pub placed : Kernel → ℕ → List ℕ → ThreadSpec → Kernel
placed k o name s = made_thread (record k { objects = after_make_live k.objects o name }) o s

-- the slot of an object that ends is Empty, without grants and name
abbrev pub slot_emptied : Kernel → ℕ → Kernel
slot_emptied k o = record k { objects = after_make_empty k.objects o }

-- a thread that is removed is no module's callback thread any more
abbrev pub unless_is : ℕ → Option ℕ → Option ℕ
unless_is t None = None
unless_is t (Some u) = if u == t then None else Some u

abbrev pub without_callback : Kernel → ℕ → Kernel
without_callback k t =
    let m = module_of k t in with_spot k m
    (record (spot k m) { callback = unless_is t (spot k m).callback })

abbrev pub removed_thread : Kernel → ℕ → Kernel
removed_thread k t = slot_emptied (without_callback k t) t

-- no object, no thread, and no module has a place yet; nothing waits, nothing is armed, and no tick
-- came
abbrev pub blank_kernel : Kernel
blank_kernel = record {
  ready = new_sched priority_count;
  objects = replicate slot_limit (free_slot 0);
  threads = replicate slot_limit blank_thread;
  spots = replicate module_limit blank_spot;
  waits = new_table;
  queues = no_queues;
  semas = no_semas;
  wheel = no_timers;
  clock = 0;
  due = [];
}
