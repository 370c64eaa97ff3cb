-- What a change of one slot leaves of the table.
use Rattle.std.proofs.Common.{◌≡◌, ℕ, ◌<◌, ◌≤◌, List, length, refl, sym, subst, ◌∙◌, ⊎_elim, lit≤}
use Rattle.std.proofs.lemmas.Bool.{cases_eq, cases_lt}
use Rattle.std.proofs.lemmas.List.{get_or-set_same, get_or-set_other, get_or_past, set_past, length-set}
use Rattle.std.proofs.lemmas.List.Elements.{All-set}
use Rattle.object_grants.specs.Slot.{IsSlot, free_slot}
use Rattle.object_grants.specs.Table.{IsTable, slot, with_slot}
use Rattle.object_grants.specs.declared.slot.Slot.{Slot}

-- a relation of each slot before to the slot after: of slot o to s, and of every slot to itself
pub each_moves : (R : Slot → Slot → Type 0) → ((s : Slot) → R s s) → (t : List Slot) (o : ℕ) (s : Slot) → R (slot t o) s → (p : ℕ)
    → R (slot t p) (slot (with_slot t o s) p)
each_moves R same t o s here p =
    let at_other = λ (other : p ≡ o → ⊥). subst (λ (q : Slot). R (slot t p) q) (sym (get_or-set_other t o p s (free_slot 0) other)) (same (slot t p)) in
    let at_o = λ (inside : o < length t). subst (λ (q : Slot). R (slot t o) q) (sym (get_or-set_same t o s (free_slot 0) inside)) here in
    let past = λ (beyond : length t ≤ o). subst (λ (u : List Slot). R (slot t o) (slot u o)) (sym (set_past t o s beyond)) (same (slot t o)) in
    ⊎_elim (λ is_o. subst (λ (q : ℕ). R (slot t q) (slot (with_slot t o s) q)) (sym is_o) (⊎_elim at_o past (cases_lt o (length t)))) at_other (cases_eq p o)

-- each slot of a table, and none beyond it, is as all slots are
pub is_slot : (t : List Slot) (o : ℕ) → IsTable t → IsSlot (slot t o)
is_slot t o table =
    ⊎_elim (λ inside. table.each o (free_slot 0) inside)
    (λ beyond. subst IsSlot (sym (get_or_past t o (free_slot 0) beyond)) (record { generation = lit≤ tt; kind = refl; used = λ impossible. absurd (cc) }))
    (cases_lt o (length t))

pub IsTable-with_slot : (t : List Slot) (o : ℕ) (s : Slot) → IsTable t → IsSlot s → IsTable (with_slot t o s)
IsTable-with_slot t o s table good = record {
  size = length-set t o s ∙ table.size;
  each = All-set IsSlot t o s good table.each;
}
