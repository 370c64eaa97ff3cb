-- What is found by its name.
use Rattle.std.proofs.Common.{◌≡◌, ℕ, true, List, Some, position}
use Rattle.std.proofs.lemmas.Bool.{and_parts}
use Rattle.std.proofs.lemmas.List.Quantifiers.{position-Some}
use Rattle.std.specs.Str.{bytes_eq}
use Rattle.tx_types.specs.declared.kind.Kind.TheVariants.{Thread}
use Rattle.object_grants.specs.Slot.{free_slot, has_name}
use Rattle.object_grants.specs.Table.{slot}
use Rattle.kernel_state.specs.Kernel.{has_thread, is_thread}
use Rattle.kernel_state.specs.declared.kernel.Kernel.{Kernel}

-- the thread of a name is a thread
pub named_is_thread : (k : Kernel) (name : List ℕ) (t : ℕ) → position (has_name Thread name) k.objects ≡ Some t → is_thread k t ≡ true
named_is_thread k name t is =
    let s = slot k.objects t in
    let passes = position-Some (has_name Thread name) k.objects t (free_slot 0) is in
    (and_parts (has_thread s) (bytes_eq s.name name) passes.1).0
