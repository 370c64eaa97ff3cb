-- A slot of a module is freed, with the object in it: the kernel stays sound, and at last the module owns no slot.
use Rattle.std.proofs.Common.{◌≡◌, ◌≢◌, ℕ, suc, ◌<◌, ◌==◌, ◌&&◌, true, false, not, [], length, refl, sym, ap, ◌∙◌, subst, ⊎_elim, arith}
use Rattle.std.proofs.lemmas.Bool.{and_from, and_parts, cases_eq, cases_lt, cond_both, eq-eqb, eqb-true, false≢true}
use Rattle.std.proofs.lemmas.List.{get_or-set_same, get_or-set_other, get_or_past, length-set}
use Rattle.tx_types.specs.declared.kind.Kind.{Kind}
use Rattle.tx_types.specs.declared.kind.Kind.TheVariants.{Thread as ThreadKind}
use Rattle.object_grants.specs.Slot.{free_slot, is_in, is_kind, owns, slot_state_number}
use Rattle.object_grants.specs.Table.{slot}
use Rattle.object_grants.specs.declared.slot.Slot.{Slot}
use Rattle.object_grants.specs.declared.slot.SlotState.TheVariants.{Free, Empty, Live}
use Rattle.region_guard.specs.Memory.{Memory}
use Rattle.kernel_state.specs.Change.{Change, quiet}
use Rattle.kernel_state.specs.ContentLaws.{RemovedKeepsServing}
use Rattle.kernel_state.specs.Kernel.{thread, has_thread, is_live_of, is_thread, module_of, removed_thread, slot_emptied}
use Rattle.kernel_state.specs.Laws.{OneSlotChanges, OneThreadIsRemoved}
use Rattle.kernel_state.specs.ObjectLaws.{RemovedChangesOne, RemovedKeepsMemory, RemovedKeepsSound, RemovedSparesThreads}
use Rattle.kernel_state.specs.Objects.{removed}
use Rattle.kernel_state.specs.Serves.{Serves}
use Rattle.kernel_state.specs.Sound.{IsSound, IsThread, IsEntry}
use Rattle.kernel_state.specs.Thread.{is_over}
use Rattle.kernel_state.specs.declared.kernel.Kernel.{Kernel}
use Rattle.thread_calls.specs.Laws.{SlotKeepsServing, ThreadRemovedKeepsServing}
use Rattle.module_manager.specs.Halt.{AreOver, clearing, freed, slots_cleared, then_freed}
use Rattle.module_manager.proofs.Ending.{below_256}
use Rattle.module_manager.proofs.Folds.{for_each_slot_both, for_each_slot_keeps, for_each_slot_memory}

-- the laws of the layers below on slots that change and objects that are removed
pub record Removes : Type 0 where
  pub changes : OneSlotChanges
  pub of_thread : OneThreadIsRemoved
  pub of_object : RemovedKeepsSound
  pub one : RemovedChangesOne
  pub spares : RemovedSparesThreads
  pub memory : RemovedKeepsMemory

pub record Serving : Type 0 where
  pub changes : SlotKeepsServing
  pub of_thread : ThreadRemovedKeepsServing
  pub of_object : RemovedKeepsServing

-- a slot isn't the module's; or it is, and has no object; or one that is no thread; or a thread
pub by_clearing : (m : ℕ) (k : Kernel) (g : Memory) (o : ℕ) (P : Change → Type 0)
    → (owns m (slot k.objects o) ≡ false → P (quiet k g))
    → (owns m (slot k.objects o) ≡ true → is_in Live (slot k.objects o) ≡ false → P (then_freed (quiet k g) o))
    → (owns m (slot k.objects o) ≡ true → is_in Live (slot k.objects o) ≡ true → is_thread k o ≡ false → P (then_freed (removed k g o) o))
    → (owns m (slot k.objects o) ≡ true → is_thread k o ≡ true → P (then_freed (quiet (removed_thread k o) g) o))
    → P (clearing m k g o)
by_clearing m k g o P other empty object live =
    cond_both (owns m (slot k.objects o)) _ (quiet k g) P
    (λ own. cond_both (is_thread k o) (quiet (removed_thread k o) g) _ (λ (c : Change). P (then_freed c o)) (live own)
    (λ none. cond_both (is_in Live (slot k.objects o)) (removed k g o) (quiet k g) (λ (c : Change). P (then_freed c o))
    (λ is. object own is none) (empty own)))
    other

-- who owns a slot
pub owner_is : (m : ℕ) (s : Slot) → owns m s ≡ true → s.owner ≡ m
owner_is m s own = eqb-true s.owner m (and_parts (not (is_in Free s)) (s.owner == m) own).1

abbrev emptied : Kernel → ℕ → Slot
emptied k o = record (slot k.objects o) { state = Empty; grants = 0; name = [] }

-- of the slots a removal changes the object's alone
removed-objects : Removes → (k : Kernel) (g : Memory) (o : ℕ) → (removed k g o).kernel.objects ≡ (slot_emptied k o).objects
removed-objects removes k g o = ap (λ (j : Kernel). j.objects) (removes.one k g o)

-- no other slot changes
pub clearing-other : Removes → (m : ℕ) (k : Kernel) (g : Memory) (o u : ℕ) → u ≢ o → slot (clearing m k g o).kernel.objects u ≡ slot k.objects u
clearing-other removes m k g o u other =
    let freed-other = λ (j : Kernel). get_or-set_other j.objects o u (free_slot (slot j.objects o).generation) (free_slot 0) other in
    let emptied-other = get_or-set_other k.objects o u (emptied k o) (free_slot 0) other in
    by_clearing m k g o (λ (c : Change). slot c.kernel.objects u ≡ slot k.objects u) (λ _. refl) (λ _ _. freed-other k)
    (λ _ _ _. freed-other (removed k g o).kernel ∙ (ap (λ slots. slot slots u) (removed-objects removes k g o) ∙ emptied-other))
    (λ _ _. freed-other (removed_thread k o) ∙ emptied-other)

-- a slot that is freed, and one whose object was removed
freed-here : (k : Kernel) (o : ℕ) → o < length k.objects → slot (freed k o).objects o ≡ free_slot (slot k.objects o).generation
freed-here k o size = get_or-set_same k.objects o (free_slot (slot k.objects o).generation) (free_slot 0) size

emptied-here : (k : Kernel) (o : ℕ) → o < length k.objects → slot (slot_emptied k o).objects o ≡ emptied k o
emptied-here k o size = get_or-set_same k.objects o (emptied k o) (free_slot 0) size

removed-here : Removes → (k : Kernel) (g : Memory) (o : ℕ) → o < length k.objects → slot (removed k g o).kernel.objects o ≡ emptied k o
removed-here removes k g o size = ap (λ slots. slot slots o) (removed-objects removes k g o) ∙ emptied-here k o size

size-emptied : (k : Kernel) (o : ℕ) → o < length k.objects → o < length (slot_emptied k o).objects
size-emptied k o size = omega (arith, length-set k.objects o (emptied k o))

size-removed : Removes → (k : Kernel) (g : Memory) (o : ℕ) → o < length k.objects → o < length (removed k g o).kernel.objects
size-removed removes k g o size = subst (λ slots. o < length slots) (sym (removed-objects removes k g o)) (size-emptied k o size)

-- a module owns no slot past the last
own_size : (m : ℕ) (k : Kernel) (o : ℕ) → owns m (slot k.objects o) ≡ true → o < length k.objects
own_size m k o own =
    ⊎_elim (λ inside. inside) (λ past. absurd (false≢true (sym (ap (owns m) (get_or_past k.objects o (free_slot 0) past)) ∙ own)))
    (cases_lt o (length k.objects))

pub own_below : (m : ℕ) (k : Kernel) (o : ℕ) → IsSound k → owns m (slot k.objects o) ≡ true → o < 256
own_below m k o sound own = omega (arith, own_size m k o own, sound.formed.slots)

-- what holds of each free slot holds of one that is freed
by_freed : (P : Slot → Type 0) → ((n : ℕ) → P (free_slot n)) → (k : Kernel) (o : ℕ) → o < length k.objects → P (slot (freed k o).objects o)
by_freed P free k o size = subst P (sym (freed-here k o size)) (free (slot k.objects o).generation)

-- what holds of a slot that isn't the module's, and of a free one, holds of one afterwards
clearing-here : Removes → (P : Slot → Type 0) (m : ℕ) (k : Kernel) (g : Memory) (o : ℕ) → ((n : ℕ) → P (free_slot n))
    → (owns m (slot k.objects o) ≡ false → P (slot k.objects o)) → P (slot (clearing m k g o).kernel.objects o)
clearing-here removes P m k g o free other =
    by_clearing m k g o (λ (c : Change). P (slot c.kernel.objects o)) other (λ own _. by_freed P free k o (own_size m k o own))
    (λ own _ _. by_freed P free (removed k g o).kernel o (size-removed removes k g o (own_size m k o own)))
    (λ own _. by_freed P free (removed_thread k o) o (size-emptied k o (own_size m k o own)))

clearing-owns : Removes → (m : ℕ) (k : Kernel) (g : Memory) (o : ℕ) → owns m (slot (clearing m k g o).kernel.objects o) ≡ false
clearing-owns removes m k g o = clearing-here removes (λ (s : Slot). owns m s ≡ false) m k g o (λ n. refl) (λ none. none)

-- what is no object is of no kind
no_object : (s : Slot) (kind : Kind) → is_in Live s ≡ false → is_live_of kind s ≡ false
no_object s kind dead = ap (λ b. b && is_kind kind s) dead

freed-sound : OneSlotChanges → (k : Kernel) (o : ℕ) → IsSound k → o < 256 → is_in Live (slot k.objects o) ≡ false → IsSound (freed k o)
freed-sound changes k o sound below dead =
    changes k o (free_slot (slot k.objects o).generation) sound below (refl, refl, refl) (λ kind. sym (no_object (slot k.objects o) kind dead))
    (λ live. absurd (false≢true (sym (no_object (slot k.objects o) ThreadKind dead) ∙ live)))

freed-serves : SlotKeepsServing → (k : Kernel) (g : Memory) (o : ℕ) → Serves k g → o < 256 → is_in Live (slot k.objects o) ≡ false → Serves (freed k o) g
freed-serves changes k g o serves below dead =
    changes k g o (free_slot (slot k.objects o).generation) serves below (refl, refl, refl) (λ kind. sym (no_object (slot k.objects o) kind dead))
    (λ live. absurd (false≢true (sym (no_object (slot k.objects o) ThreadKind dead) ∙ live)))

-- the owner of a thread's slot is the thread's module
pub owner-thread : (k : Kernel) (t : ℕ) → IsSound k → is_thread k t ≡ true → module_of k t ≡ (slot k.objects t).owner
owner-thread k t sound live =
    let right : IsThread k t = subst (IsEntry k t) live (sound.formed.entries t (below_256 k t sound live)) in right.owner

-- a module owns the slot of its thread
pub owns-thread : (k : Kernel) (t m : ℕ) → IsSound k → is_thread k t ≡ true → module_of k t ≡ m → owns m (slot k.objects t) ≡ true
owns-thread k t m sound live own =
    let s = slot k.objects t in
    let is_live = eqb-true (slot_state_number s.state) 2 (and_parts (is_in Live s) (is_kind ThreadKind s) live).0 in
    and_from (not (is_in Free s)) (s.owner == m) (ap (λ n. not (n == 0)) is_live) (eq-eqb s.owner m (sym (owner-thread k t sound live) ∙ own))

-- a thread whose slot is the module's is over
own_is_over : (m : ℕ) (k : Kernel) (o : ℕ) → IsSound k → AreOver k m → owns m (slot k.objects o) ≡ true → is_thread k o ≡ true
    → is_over (thread k o).state ≡ true
own_is_over m k o sound over own live = over o live (owner-thread k o sound live ∙ owner_is m (slot k.objects o) own)

pub clearing-sound : Removes → (m : ℕ) (k : Kernel) (g : Memory) (o : ℕ) → IsSound k → AreOver k m → IsSound (clearing m k g o).kernel
clearing-sound removes m k g o sound over =
    by_clearing m k g o (λ (c : Change). IsSound c.kernel) (λ _. sound) (λ own dead. freed-sound removes.changes k o sound (own_below m k o sound own) dead)
    (λ own is none. let below = own_below m k o sound own in
    freed-sound removes.changes (removed k g o).kernel o (removes.of_object k g o sound below is none) below
    (ap (is_in Live) (removed-here removes k g o (own_size m k o own))))
    (λ own live. let below = own_below m k o sound own in
    freed-sound removes.changes (removed_thread k o) o (removes.of_thread k o sound below live (own_is_over m k o sound over own live)) below
    (ap (is_in Live) (emptied-here k o (own_size m k o own))))

pub clearing-serves : Removes → Serving → (m : ℕ) (k : Kernel) (g : Memory) (o : ℕ) → Serves k g → AreOver k m
    → Serves (clearing m k g o).kernel (clearing m k g o).memory
clearing-serves removes serving m k g o serves over =
    let sound = serves.sound in
    by_clearing m k g o (λ (c : Change). Serves c.kernel c.memory) (λ _. serves)
    (λ own dead. freed-serves serving.changes k g o serves (own_below m k o sound own) dead)
    (λ own is none. let below = own_below m k o sound own in
    freed-serves serving.changes (removed k g o).kernel (removed k g o).memory o (serving.of_object k g o serves below is none) below
    (ap (is_in Live) (removed-here removes k g o (own_size m k o own))))
    (λ own live. freed-serves serving.changes (removed_thread k o) g o (serving.of_thread k g o serves live (own_is_over m k o sound over own live))
    (own_below m k o sound own) (ap (is_in Live) (emptied-here k o (own_size m k o own))))

-- every thread keeps its module, and whether it is over
pub clearing-module : Removes → (m : ℕ) (k : Kernel) (g : Memory) (o u : ℕ) → IsSound k → module_of (clearing m k g o).kernel u ≡ module_of k u
clearing-module removes m k g o u sound =
    by_clearing m k g o (λ (c : Change). module_of c.kernel u ≡ module_of k u) (λ _. refl) (λ _ _. refl)
    (λ _ _ _. (removes.spares k g o sound).modules u) (λ _ _. refl)

pub clearing-is_over : Removes → (m : ℕ) (k : Kernel) (g : Memory) (o u : ℕ) → IsSound k
    → is_over (thread (clearing m k g o).kernel u).state ≡ is_over (thread k u).state
clearing-is_over removes m k g o u sound =
    by_clearing m k g o (λ (c : Change). is_over (thread c.kernel u).state ≡ is_over (thread k u).state) (λ _. refl) (λ _ _. refl)
    (λ _ _ _. (removes.spares k g o sound).over u) (λ _ _. refl)

-- no slot becomes a thread's
clearing-was : Removes → (m : ℕ) (k : Kernel) (g : Memory) (o t : ℕ) → is_thread (clearing m k g o).kernel t ≡ true → is_thread k t ≡ true
clearing-was removes m k g o t live =
    ⊎_elim
    (λ (same : t ≡ o). subst (λ n. is_thread k n ≡ true) (sym same)
    (clearing-here removes (λ (s : Slot). has_thread s ≡ true → is_thread k o ≡ true) m k g o (λ n is. absurd (false≢true is)) (λ _ is. is)
    (subst (λ n. is_thread (clearing m k g o).kernel n ≡ true) same live)))
    (λ (other : t ≢ o). sym (ap has_thread (clearing-other removes m k g o t other)) ∙ live) (cases_eq t o)

pub clearing-over : Removes → (m : ℕ) (k : Kernel) (g : Memory) (o : ℕ) → IsSound k → AreOver k m → AreOver (clearing m k g o).kernel m
clearing-over removes m k g o sound over t live own =
    clearing-is_over removes m k g o t sound
    ∙ over t (clearing-was removes m k g o t live) (sym (clearing-module removes m k g o t sound) ∙ own)

-- of the slots of smaller numbers, the module owns none
abbrev AreFreeBelow : ℕ → ℕ → Kernel → Type 0
AreFreeBelow m n k = (o : ℕ) → o < n → owns m (slot k.objects o) ≡ false

one_more_free : Removes → (m n : ℕ) (k : Kernel) (g : Memory) → AreFreeBelow m n k → AreFreeBelow m (suc n) (clearing m k g n).kernel
one_more_free removes m n k g free o below =
    ⊎_elim (λ (same : o ≡ n). subst (λ j. owns m (slot (clearing m k g n).kernel.objects j) ≡ false) (sym same) (clearing-owns removes m k g n))
    (λ (other : o ≢ n). ap (owns m) (clearing-other removes m k g n o other) ∙ free o (omega arith)) (cases_eq o n)

-- what a slot's end keeps, for all slots that were freed yet
record IsCleared (m n : ℕ) (k : Kernel) : Type 0 where
  pub sound : IsSound k
  pub over : AreOver k m
  pub free : AreFreeBelow m n k

one_more_cleared : Removes → (m n : ℕ) (k : Kernel) (g : Memory) → IsCleared m n k → IsCleared m (suc n) (clearing m k g n).kernel
one_more_cleared removes m n k g kept = record {
  sound = clearing-sound removes m k g n kept.sound kept.over;
  over = clearing-over removes m k g n kept.sound kept.over;
  free = one_more_free removes m n k g kept.free;
}

none_cleared : (m : ℕ) (k : Kernel) → IsSound k → AreOver k m → IsCleared m 0 k
none_cleared m k sound over = record { sound = sound; over = over; free = λ o below. absurd (omega arith) }

pub slots_cleared-sound-free : Removes → (m : ℕ) (k : Kernel) (g : Memory) → IsSound k → AreOver k m
    → IsSound (slots_cleared k g m).kernel × ((o : ℕ) → owns m (slot (slots_cleared k g m).kernel.objects o) ≡ false)
slots_cleared-sound-free removes m k g sound over =
    let now = (slots_cleared k g m).kernel in
    let all = for_each_slot_keeps (IsCleared m) (clearing m) (λ n j h below. one_more_cleared removes m n j h) k g (none_cleared m k sound over) in (
      all.sound,
      λ o. ⊎_elim (λ below. all.free o below)
          (λ past. ap (owns m) (get_or_past now.objects o (free_slot 0) (omega (arith, all.sound.formed.slots)))) (cases_lt o 256),
    )

-- the kernel serves, as it did
pub slots_cleared-serves : Removes → Serving → (m : ℕ) (k : Kernel) (g : Memory) → Serves k g → AreOver k m
    → Serves (slots_cleared k g m).kernel (slots_cleared k g m).memory
slots_cleared-serves removes serving m k g serves over =
    let all = for_each_slot_both (λ n j h. Serves j h × AreOver j m) (clearing m)
    (λ n j h below kept. (clearing-serves removes serving m j h n kept.0 kept.1, clearing-over removes m j h n kept.0.sound kept.1)) k g (serves, over) in
    all.0

-- no byte changes
pub slots_cleared-memory : Removes → (k : Kernel) (g : Memory) (m : ℕ) → (slots_cleared k g m).memory ≡ g
slots_cleared-memory removes k g m =
    for_each_slot_memory (clearing m) (λ j h o. by_clearing m j h o (λ (c : Change). c.memory ≡ h) (λ _. refl) (λ _ _. refl)
    (λ _ _ _. removes.memory j h o) (λ _ _. refl)) k g

-- no thread's module changes, and none is completed or terminated
pub slots_cleared-thread : Removes → (m : ℕ) (k : Kernel) (g : Memory) (t : ℕ) → IsSound k → AreOver k m
    → let now = (slots_cleared k g m).kernel in
    (module_of now t ≡ module_of k t) × (is_over (thread now t).state ≡ is_over (thread k t).state)
slots_cleared-thread removes m k g t sound over =
    let all = for_each_slot_keeps
    (λ n j. IsCleared m n j × (module_of j t ≡ module_of k t) × (is_over (thread j t).state ≡ is_over (thread k t).state)) (clearing m)
    (λ n j h below kept. (
      one_more_cleared removes m n j h kept.0,
      clearing-module removes m j h n t kept.0.sound ∙ kept.1,
      clearing-is_over removes m j h n t kept.0.sound ∙ kept.2,
    )) k g (none_cleared m k sound over, refl, refl) in
    (all.1, all.2)
