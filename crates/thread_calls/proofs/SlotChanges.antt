-- Allocating, freeing and granting a slot keep a kernel sound.
use Rattle.std.proofs.Common.{◌≡◌, ℕ, ◌<◌, ◌==◌, ◌&&◌, true, false, nat_lt, List, Option, None, Some, position, refl, sym, ap, ◌∙◌, ⊎_elim, bit_or, ◌^◌, arith}
use Rattle.std.proofs.lemmas.Bool.{and_parts, cases_lt, cond_both, eqb-true, false≢true}
use Rattle.std.proofs.Math.Nat.{mod-lt}
use Rattle.std.proofs.lemmas.List.{get_or_past}
use Rattle.std.proofs.lemmas.List.Quantifiers.{position-Some}
use Rattle.std.specs.Str.{bytes_eq}
use Rattle.tx_types.specs.Reference.{slot_of}
use Rattle.tx_types.specs.declared.kind.Kind.{Kind}
use Rattle.tx_types.specs.declared.kind.Kind.TheVariants.{Thread as ThreadKind}
use Rattle.object_grants.specs.Slot.{free_slot, has_name, is_in, is_kind, is_own_empty, is_usable, last_generation, owns, slot_state_number}
use Rattle.object_grants.specs.Table.{allocated, allocated_at, after_free, named, names, slot}
use Rattle.object_grants.specs.declared.slot.Slot.{Slot}
use Rattle.object_grants.specs.declared.slot.SlotState.{SlotState}
use Rattle.object_grants.specs.declared.slot.SlotState.TheVariants.{Free, Empty, Live}
use Rattle.kernel_state.specs.Kernel.{is_live_of}
use Rattle.kernel_state.specs.Laws.{OneSlotChanges}
use Rattle.kernel_state.specs.Sound.{IsSound, IsClean}
use Rattle.thread_calls.specs.Laws.{AllocateKeepsSound, DeallocateKeepsSound, GrantKeepsSound}

-- a slot that is free, or empty, has no object
pub no_object : (s : Slot) (n : ℕ) → slot_state_number s.state ≡ n → (n == 2) ≡ false → (kind : Kind) → is_live_of kind s ≡ false
no_object s n same other kind = ap (λ m. (m == 2) && is_kind kind s) same ∙ ap (λ b. b && is_kind kind s) other

pub allocate_keeps_sound : OneSlotChanges → AllocateKeepsSound
allocate_keeps_sound changes k m kind sound = by_place (position is_usable k.objects) refl where
  by_place : (o : Option ℕ) → position is_usable k.objects ≡ o → IsSound (record k { objects = allocated_at k.objects m kind o })
  by_place None at = sound
  by_place (Some o) at =
      let found = position-Some is_usable k.objects o (free_slot 0) at in
      let free = (and_parts (is_in Free (slot k.objects o)) (nat_lt (slot k.objects o).generation last_generation) found.1).0 in
      let none = no_object (slot k.objects o) 0 (eqb-true (slot_state_number (slot k.objects o).state) 0 free) refl in
      changes k o (allocated m kind (slot k.objects o)) sound (omega (arith, found.0, sound.formed.slots)) (refl, refl) (λ other. sym (none other))
      (λ live. absurd (false≢true (sym (none ThreadKind) ∙ live)))

pub deallocate_keeps_sound : OneSlotChanges → DeallocateKeepsSound
deallocate_keeps_sound changes k m r sound =
    let o = slot_of r in
    cond_both (named k.objects r (is_own_empty m)) (after_free k.objects o) k.objects (λ slots. IsSound (record k { objects = slots }))
    (λ names_it.
    let own = (and_parts (names k.objects r) (is_own_empty m (slot k.objects o)) names_it).1 in
    let empty = (and_parts (is_in Empty (slot k.objects o)) (owns m (slot k.objects o)) own).0 in
    let none = no_object (slot k.objects o) 1 (eqb-true (slot_state_number (slot k.objects o).state) 1 empty) refl in
    changes k o (free_slot (slot k.objects o).generation) sound (mod-lt r (omega arith)) (refl, refl, refl) (λ kind. sym (none kind))
    (λ live. absurd (false≢true (sym (none ThreadKind) ∙ live))))
    (λ refused. sound)

-- a Live slot's name stays clean whatever it grants
still_clean : (s : Slot) (grants : ℕ) → is_in Live s ≡ true → IsClean s s.state → IsClean (record s { grants = grants }) s.state
still_clean s grants live clean = by_state s.state live clean where
  by_state : (state : SlotState) → (slot_state_number state == 2) ≡ true → IsClean s state → IsClean (record s { grants = grants }) state
  by_state Free e h = absurd (false≢true e)
  by_state Empty e h = absurd (false≢true e)
  by_state Live e h = h

pub grant_keeps_sound : OneSlotChanges → GrantKeepsSound
grant_keeps_sound changes k m o sound live =
    let s = slot k.objects o in
    let below : o < 256 =
    ⊎_elim (λ below. below)
    (λ past. absurd (false≢true (sym (ap (is_in Live) (get_or_past k.objects o (free_slot 0) (omega (arith, sound.formed.slots)))) ∙ live)))
    (cases_lt o 256) in
    changes k o (record s { grants = bit_or s.grants (2 ^ m) }) sound below
    (still_clean s (bit_or s.grants (2 ^ m)) live (sound.formed.clean o below)) (λ kind. refl) (λ is_one. refl)

-- an object that is found by its name is Live
pub found_is_live : (slots : List Slot) (kind : Kind) (name : List ℕ) (o : ℕ) → position (has_name kind name) slots ≡ Some o → is_in Live (slot slots o) ≡ true
found_is_live slots kind name o at =
    let s = slot slots o in
    let found = position-Some (has_name kind name) slots o (free_slot 0) at in
    let of_kind = (and_parts (is_in Live s && is_kind kind s) (bytes_eq s.name name) found.1).0 in
    (and_parts (is_in Live s) (is_kind kind s) of_kind).0
