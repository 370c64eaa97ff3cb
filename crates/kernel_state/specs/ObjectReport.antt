-- What a report says of an object that isn't a thread.
use Rattle.std.specs.Prelude.{ℕ, ◌&&◌, Bool, length, not, Option, None, Some, if◌then◌else◌}
use Rattle.std.specs.Option.{option_map_or}
use Rattle.board_values.specs.declared.report.ObjectRow.{ObjectRow}
use Rattle.msg_queues.specs.Queues.{messages_of, room_of, words_of}
use Rattle.object_grants.specs.Slot.{is_in}
use Rattle.object_grants.specs.Table.{slot}
use Rattle.object_grants.specs.declared.slot.Slot.{Slot}
use Rattle.object_grants.specs.declared.slot.SlotState.TheVariants.{Live}
use Rattle.suspend_lists.specs.Wait.{place}
use Rattle.suspend_lists.specs.Waits.{waiters}
use Rattle.suspend_lists.specs.declared.wait.On.TheVariants.{Object}
use Rattle.sync_objects.specs.Semas.{count_of}
use Rattle.tx_types.specs.Kind.{kind_number}
use Rattle.tx_types.specs.declared.kind.Kind.{Kind}
use Rattle.tx_types.specs.declared.kind.Kind.TheVariants.{Queue as QueueKind, Semaphore as SemaphoreKind}
use Rattle.kernel_state.specs.Kernel.{has_thread}
use Rattle.kernel_state.specs.declared.kernel.Kernel.{Kernel}

-- a Live object of another kind than a thread
abbrev pub has_object : Slot → Bool
has_object s = is_in Live s && not (has_thread s)

-- the three numbers of an object of a kind: of a queue its messages, its room and the words of a
-- message, and of a semaphore its count
abbrev pub first_number : Kernel → ℕ → Option Kind → ℕ
first_number k o (Some QueueKind) = length (messages_of k.queues o)
first_number k o (Some SemaphoreKind) = count_of k.semas o
first_number k o _ = 0

abbrev pub second_number : Kernel → ℕ → Option Kind → ℕ
second_number k o (Some QueueKind) = room_of k.queues o
second_number k o _ = 0

abbrev pub third_number : Kernel → ℕ → Option Kind → ℕ
third_number k o (Some QueueKind) = words_of k.queues o
third_number k o _ = 0

-- its number, its slot's owner, kind and name, what is in it, and who waits for it, in order
abbrev pub row_of_object : Kernel → ℕ → ObjectRow
row_of_object k o = record {
  object = o;
  «module» = (slot k.objects o).owner;
  kind = option_map_or kind_number (slot k.objects o).kind 0;
  name = (slot k.objects o).name;
  a = first_number k o (slot k.objects o).kind;
  b = second_number k o (slot k.objects o).kind;
  c = third_number k o (slot k.objects o).kind;
  waits = waiters k.waits (place (Object o));
}

unfoldable pub object_row : Kernel → ℕ → Option ObjectRow
object_row k o = if has_object (slot k.objects o) then Some (row_of_object k o) else None
