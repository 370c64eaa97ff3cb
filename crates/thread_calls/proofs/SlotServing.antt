-- Allocating, freeing and granting a slot, and a thread that is made or removed, keep a kernel serving.
use Rattle.std.proofs.Common.{◌≡◌, ℕ, ◌<◌, ◌==◌, Bool, true, false, [], nat_lt, length, List, Option, None, Some, position, refl, sym, ap, ◌∙◌, subst, ⊎_elim, bit_or, ◌^◌, arith}
use Rattle.std.proofs.lemmas.Bool.{and_parts, cases_eq, cases_lt, cond_both, eqb-true}
use Rattle.std.proofs.Math.Nat.{mod-lt}
use Rattle.std.proofs.lemmas.List.{get_or-set_same, get_or-set_other, set_past}
use Rattle.std.proofs.lemmas.List.Quantifiers.{position-Some}
use Rattle.std.proofs.lemmas.Option.{none-some}
use Rattle.tx_types.specs.Reference.{slot_of}
use Rattle.tx_types.specs.declared.kind.Kind.TheVariants.{Thread as ThreadKind}
use Rattle.call_arguments.specs.Words.{with_word}
use Rattle.object_grants.specs.Slot.{free_slot, is_in, is_own_empty, is_usable, last_generation, owns, slot_state_number}
use Rattle.object_grants.specs.Table.{after_free, after_grant, allocated, allocated_at, named, names, slot, with_slot}
use Rattle.object_grants.specs.declared.slot.Slot.{Slot}
use Rattle.object_grants.specs.declared.slot.SlotState.TheVariants.{Free, Empty, Live}
use Rattle.region_guard.specs.Memory.{Memory}
use Rattle.suspend_lists.specs.Waits.{wait_of}
use Rattle.suspend_lists.specs.declared.wait.Wait.{Wait}
use Rattle.kernel_state.specs.Contents.{ArePromised}
use Rattle.kernel_state.specs.Kernel.{is_thread, placed, removed_thread}
use Rattle.kernel_state.specs.Laws.{OneSlotChanges, OneThreadIsMade, OneThreadIsRemoved, ThreadIsRight}
use Rattle.kernel_state.specs.Serves.{Serves}
use Rattle.kernel_state.specs.Sound.{IsEntry, IsSound}
use Rattle.kernel_state.specs.WaitLaws.{PromisesStay}
use Rattle.kernel_state.specs.declared.kernel.Kernel.{Kernel}
use Rattle.thread_calls.specs.Laws.{AllocateKeepsServing, AllocateKeepsSound, DeallocateKeepsServing, DeallocateKeepsSound, GrantKeepsServing, GrantKeepsSound, SlotKeepsServing}
use Rattle.thread_calls.specs.Laws.{ThreadPlacedKeepsServing, ThreadRemovedKeepsServing}
use Rattle.thread_calls.proofs.SlotChanges.{no_object}

-- a slot is another's, or nobody waits there
abbrev OwnerStays : Kernel → ℕ → Slot → Type 0
OwnerStays k o now = (w : Wait) → wait_of k.waits o ≡ Some w → now.owner ≡ (slot k.objects o).owner

-- the slots of those who wait have the same owners as one slot changes
owner_of : (k : Kernel) (o : ℕ) (now : Slot) → OwnerStays k o now → (t : ℕ) (w : Wait) → wait_of k.waits t ≡ Some w
    → (slot (with_slot k.objects o now) t).owner ≡ (slot k.objects t).owner
owner_of k o now stays t w is = ⊎_elim
    (λ (here : t ≡ o). ⊎_elim
    (λ below. ap (λ n. (slot (with_slot k.objects o now) n).owner) here
    ∙ (ap (λ (s : Slot). s.owner) (get_or-set_same k.objects o now (free_slot 0) below)
    ∙ (stays w (sym (ap (wait_of k.waits) here) ∙ is) ∙ ap (λ n. (slot k.objects n).owner) (sym here))))
    (λ past. ap (λ slots. (slot slots t).owner) (set_past k.objects o now past)) (cases_lt o (length k.objects)))
    (λ other. ap (λ (s : Slot). s.owner) (get_or-set_other k.objects o t now (free_slot 0) other)) (cases_eq t o)

-- nobody waits at the number of no thread
no_wait : (k : Kernel) (o : ℕ) → IsSound k → o < 256 → is_thread k o ≡ false → (w : Wait) → wait_of k.waits o ≡ Some w → ⊥
no_wait k o sound below none w is = none-some w (sym (subst (IsEntry k o) none (sound.formed.entries o below)).1 ∙ is)

-- where slots and threads change alone, results are promised as before
still_promised : PromisesStay → (k now : Kernel) (g : Memory) (o : ℕ) (new : Slot) → Serves k g → OwnerStays k o new
    → now.objects ≡ with_slot k.objects o new → now.queues ≡ k.queues → now.waits ≡ k.waits
    → ArePromised g now.objects now.queues now.waits
still_promised promises k now g o new serves stays objects queues waits =
    subst (λ q. ArePromised g now.objects q now.waits) (sym queues) (subst (λ w. ArePromised g now.objects k.queues w) (sym waits)
    (subst (λ slots. ArePromised g slots k.queues k.waits) (sym objects)
    (promises k (record k { objects = with_slot k.objects o new }) g g serves.promised refl
    (λ t w is. record { is = is; owner = owner_of k o new stays t w is; words = refl }))))

-- a slot of nobody who waits changes
unused : (k : Kernel) (o n : ℕ) (new : Slot) → IsSound k → o < 256 → slot_state_number (slot k.objects o).state ≡ n → (n == 2) ≡ false → OwnerStays k o new
unused k o n new sound below same other w is = absurd (no_wait k o sound below (no_object (slot k.objects o) n same other ThreadKind) w is)

pub allocate_keeps_serving : AllocateKeepsSound → PromisesStay → AllocateKeepsServing
allocate_keeps_serving keeps promises k g m kind serves = record {
  sound = keeps k m kind serves.sound;
  running = serves.running;
  promised = by_place (position is_usable k.objects) refl;
} where
  by_place : (o : Option ℕ) → position is_usable k.objects ≡ o → ArePromised g (allocated_at k.objects m kind o) k.queues k.waits
  by_place None at = serves.promised
  by_place (Some o) at =
      let s = slot k.objects o in
      let new = allocated m kind s in
      let found = position-Some is_usable k.objects o (free_slot 0) at in
      let free = (and_parts (is_in Free s) (nat_lt s.generation last_generation) found.1).0 in
      let below : o < 256 = omega (arith, found.0, serves.sound.formed.slots) in
      let stays = unused k o 0 new serves.sound below (eqb-true (slot_state_number s.state) 0 free) refl in
      still_promised promises k (record k { objects = with_slot k.objects o new }) g o new serves stays refl refl refl

pub deallocate_keeps_serving : DeallocateKeepsSound → PromisesStay → DeallocateKeepsServing
deallocate_keeps_serving keeps promises k g m r serves =
    let o = slot_of r in
    let s = slot k.objects o in
    let new = free_slot s.generation in
    record {
      sound = keeps k m r serves.sound;
      running = serves.running;
      promised = cond_both (named k.objects r (is_own_empty m)) (after_free k.objects o) k.objects (λ slots. ArePromised g slots k.queues k.waits)
          (λ names_it.
          let own = (and_parts (names k.objects r) (is_own_empty m s) names_it).1 in
          let empty = (and_parts (is_in Empty s) (owns m s) own).0 in
          let stays = unused k o 1 new serves.sound (mod-lt r (omega arith)) (eqb-true (slot_state_number s.state) 1 empty) refl in
          still_promised promises k (record k { objects = with_slot k.objects o new }) g o new serves stays refl refl refl)
          (λ refused. serves.promised);
    }

pub grant_keeps_serving : GrantKeepsSound → PromisesStay → GrantKeepsServing
grant_keeps_serving keeps promises k g m o serves live =
    let s = slot k.objects o in
    record {
      sound = keeps k m o serves.sound live;
      running = serves.running;
      promised = still_promised promises k (record k { objects = after_grant k.objects m o }) g o (record s { grants = bit_or s.grants (2 ^ m) }) serves
          (λ w is. refl) refl refl refl;
    }

pub placed_keeps_serving : OneThreadIsMade → PromisesStay → ThreadPlacedKeepsServing
placed_keeps_serving made promises k g o name s serves empty kind own clean at_most level = record {
  sound = made k o name s serves.sound empty kind own clean at_most level;
  running = serves.running;
  promised = still_promised promises k (placed k o name s) g o (record (slot k.objects o) { state = Live; name = name }) serves
      (λ w is. refl) refl refl refl;
}

pub removed_keeps_serving : OneThreadIsRemoved → ThreadIsRight → PromisesStay → ThreadRemovedKeepsServing
removed_keeps_serving removes right promises k g t serves live over = record {
  sound = removes k t serves.sound (right k t serves.sound live).0 live over;
  running = serves.running;
  promised = still_promised promises k (removed_thread k t) g t (record (slot k.objects t) { state = Empty; grants = 0; name = [] }) serves
      (λ w is. refl) refl refl refl;
}

pub slot_keeps_serving : OneSlotChanges → PromisesStay → SlotKeepsServing
slot_keeps_serving changes promises k g o now serves below clean kinds owner = record {
  sound = changes k o now serves.sound below clean kinds owner;
  running = serves.running;
  promised = still_promised promises k (record k { objects = with_slot k.objects o now }) g o now serves
      (by_thread (is_thread k o) refl) refl refl refl;
} where
  by_thread : (b : Bool) → is_thread k o ≡ b → OwnerStays k o now
  by_thread true live w is = owner live
  by_thread false none w is = absurd (no_wait k o serves.sound below none w is)

-- by a slot that changed, with a word that is written
pub slots_serve : (k : Kernel) (g : Memory) (slots now : List Slot) → now ≡ slots → Serves (record k { objects = slots }) g
    → Serves (record k { objects = now }) g
slots_serve k g slots now same serves = subst (λ s. Serves (record k { objects = s }) g) (sym same) serves

pub word_serves : PromisesStay → (k : Kernel) (g now : Memory) (x w : ℕ) → now ≡ with_word g x w → Serves k g → Serves k now
word_serves promises k g now x w same serves =
    subst (Serves k) (sym same) (record {
      sound = serves.sound;
      running = serves.running;
      promised = promises k k g (with_word g x w) serves.promised refl (λ t v is. record { is = is; owner = refl; words = refl });
    })
