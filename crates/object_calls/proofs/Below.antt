-- Past the last slot there is no object, and no slot in use.
use Rattle.std.proofs.Common.{◌≡◌, ◌<◌, ℕ, true, false, List, length, sym, ap, ◌∙◌, ⊎_elim, arith}
use Rattle.std.proofs.lemmas.Bool.{cases_lt, false≢true}
use Rattle.std.proofs.lemmas.List.{get_or_past}
use Rattle.tx_types.specs.Limits.{slot_limit}
use Rattle.object_grants.specs.Slot.{free_slot, is_in}
use Rattle.object_grants.specs.Table.{slot}
use Rattle.object_grants.specs.declared.slot.Slot.{Slot}
use Rattle.object_grants.specs.declared.slot.SlotState.TheVariants.{Empty, Free}

pub empty_below : (slots : List Slot) (o : ℕ) → length slots ≡ slot_limit → is_in Empty (slot slots o) ≡ true → o < slot_limit
empty_below slots o size empty =
    ⊎_elim (λ below. below)
    (λ past. absurd (false≢true (sym (ap (is_in Empty) (get_or_past slots o (free_slot 0) (omega (arith, size)))) ∙ empty)))
    (cases_lt o slot_limit)

pub used_below : (slots : List Slot) (o : ℕ) → length slots ≡ slot_limit → is_in Free (slot slots o) ≡ false → o < slot_limit
used_below slots o size used =
    ⊎_elim (λ below. below)
    (λ past. absurd (false≢true (sym used ∙ ap (is_in Free) (get_or_past slots o (free_slot 0) (omega (arith, size))))))
    (cases_lt o slot_limit)
