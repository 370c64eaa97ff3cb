use Rattle.std.proofs.Common.{◌≡◌, ◌≤◌, replicate}
use Rattle.std.specs.Vec.{vec_capacity}
use Rattle.object_grants.specs.Slot.{free_slot}
use Rattle.object_grants.proofs.objects.Objects.new.Given as goal

abbrev pub invariant-loop : goal.invariant-loop
invariant-loop l = (l.slots.items ≡ replicate l.counter (free_slot 0)) × (256 ≤ vec_capacity l.slots)
