-- What a reference names for a module is Live and of the kind that was asked for.
use Rattle.std.proofs.Common.{◌≡◌, ℕ, ◌||◌, true, List, Option, None, Some, IfSome}
use Rattle.std.proofs.lemmas.Bool.{and_parts, cond_both}
use Rattle.tx_types.specs.Reference.{slot_of}
use Rattle.tx_types.specs.declared.kind.Kind.{Kind}
use Rattle.object_grants.specs.Slot.{is_granted, is_live_for, owns}
use Rattle.object_grants.specs.Table.{named, named_slot, names, slot}
use Rattle.object_grants.specs.declared.slot.Slot.{Slot}
use Rattle.kernel_state.specs.Kernel.{is_live_of}

pub named_is_live : (slots : List Slot) (r m : ℕ) (kind : Kind) → IfSome (named_slot slots r (is_live_for m kind)) (λ o. is_live_of kind (slot slots o) ≡ true)
named_is_live slots r m kind =
    let s = slot slots (slot_of r) in
    cond_both (named slots r (is_live_for m kind)) (Some (slot_of r)) None (λ (x : Option ℕ). IfSome x (λ o. is_live_of kind (slot slots o) ≡ true))
    (λ both. let passes = (and_parts (names slots r) (is_live_for m kind s) both).1 in (and_parts (is_live_of kind s) (owns m s || is_granted m s) passes).0)
    (λ none. tt)
