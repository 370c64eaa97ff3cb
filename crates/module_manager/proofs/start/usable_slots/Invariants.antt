use Rattle.std.proofs.Common.{◌≡◌, ◌≤◌, filter, length, take}
use Rattle.object_grants.specs.Slot.{is_usable}
use Rattle.module_manager.proofs.start.usable_slots.Given as goal

abbrev pub invariant-loop-o : goal.invariant-loop-o
invariant-loop-o l = (l.usable ≡ length (filter is_usable (take l.o l.k.objects))) × (l.usable ≤ l.o)
