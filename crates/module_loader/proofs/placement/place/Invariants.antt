use Rattle.std.proofs.Common.{◌≡◌, drop, length, vec_len, vec_capacity}
use Rattle.module_loader.specs.Placement.{placement}
use Rattle.module_loader.specs.Taking.{IsAddressable}
use Rattle.module_loader.proofs.Placing.{after}
use Rattle.module_loader.proofs.placement.place.Given as goal

abbrev pub invariant-loop-i : goal.invariant-loop-i
invariant-loop-i l = record {
  addressable : IsAddressable l.left.items;
  due : after l.places.items (placement l.left.items (drop l.i l.wants)) ≡ placement l.free l.wants;
  count : vec_len l.places ≡ l.i;
  room : vec_capacity l.places ≡ length l.wants;
}
