-- A grant of a module's ends: nothing but its bit changes, and at last no slot grants the module.
use Rattle.std.proofs.Common.{◌≡◌, ◌≢◌, ℕ, suc, ◌+◌, ◌-◌, ◌*◌, ◌/◌, ◌%◌, ◌^◌, ◌<◌, ◌==◌, true, false, length, refl, sym, ap, ◌∙◌, subst, ⊎_elim, arith}
use Rattle.std.proofs.lemmas.Bool.{cases_eq, cases_lt, cond_both, eqb-true, false≢true}
use Rattle.std.proofs.lemmas.List.{get_or-set_same, get_or-set_other, get_or_past}
use Rattle.std.proofs.lemmas.Nat.{mod_below, pow_pos, shr_high, shr_split}
use Rattle.std.proofs.lemmas.Nat.Bits.{bit_at-zero}
use Rattle.machine_words.specs.Bits.{bits}
use Rattle.tx_types.specs.declared.kind.Kind.{Kind}
use Rattle.object_grants.specs.Slot.{free_slot, is_granted, owns, without_grant}
use Rattle.object_grants.specs.Table.{slot}
use Rattle.object_grants.specs.declared.slot.Slot.{Slot}
use Rattle.object_grants.specs.declared.slot.SlotState.{SlotState}
use Rattle.object_grants.specs.declared.slot.SlotState.TheVariants.{Free, Empty, Live}
use Rattle.region_guard.specs.Memory.{Memory}
use Rattle.kernel_state.specs.Kernel.{thread, has_thread, is_live_of}
use Rattle.kernel_state.specs.Laws.{OneSlotChanges}
use Rattle.kernel_state.specs.Serves.{Serves}
use Rattle.kernel_state.specs.Sound.{IsSound, IsClean}
use Rattle.kernel_state.specs.declared.kernel.Kernel.{Kernel}
use Rattle.thread_calls.specs.Laws.{SlotKeepsServing}
use Rattle.module_manager.specs.Halt.{ties_ended, ungranting}
use Rattle.module_manager.proofs.Folds.{for_each_slot_both, for_each_slot_keeps, for_each_slot_memory}

-- the bit of a grant is gone
row_below : (j p r g : ℕ) → (j + 1) * p + r ≡ g → g - p ≡ j * p + r
row_below j p r g split = grind arith

bit_gone : (g m : ℕ) → bits g m 1 ≡ 1 → bits (g - 2 ^ m) m 1 ≡ 0
bit_gone g m set =
    let q = g / 2 ^ m in
    let r = g % 2 ^ m in
    let low : r < 2 ^ m = mod_below g (2 ^ m) (pow_pos m) in
    let odd : q % 2 ≡ 1 = set in
    let one_more : (q - 1) + 1 ≡ q = omega arith in
    let less : g - 2 ^ m ≡ (q - 1) * 2 ^ m + r = row_below (q - 1) (2 ^ m) r g (rw one_more (shr_split g m)) in
    let row : (g - 2 ^ m) / 2 ^ m ≡ q - 1 = ap (λ n. n / 2 ^ m) less ∙ shr_high (q - 1) m r low in
    ap (λ n. n % 2) row ∙ omega arith

-- a slot with the grant loses its bit, and any other is as it was
by_grant : (m : ℕ) (s : Slot) (P : Slot → Type 0) → (is_granted m s ≡ true → P (record s { grants = s.grants - 2 ^ m })) → (is_granted m s ≡ false → P s)
    → P (without_grant m s)
by_grant m s P granted other = cond_both (is_granted m s) (record s { grants = s.grants - 2 ^ m }) s P granted other

without_grant-gone : (m : ℕ) (s : Slot) → is_granted m (without_grant m s) ≡ false
without_grant-gone m s =
    by_grant m s (λ (x : Slot). is_granted m x ≡ false)
    (λ granted. ap (λ n. n == 1) (bit_gone s.grants m (eqb-true (bits s.grants m 1) 1 granted))) (λ none. none)

without_grant-owns : (m n : ℕ) (s : Slot) → owns n (without_grant m s) ≡ owns n s
without_grant-owns m n s = by_grant m s (λ (x : Slot). owns n x ≡ owns n s) (λ _. refl) (λ _. refl)

without_grant-owner : (m : ℕ) (s : Slot) → (without_grant m s).owner ≡ s.owner
without_grant-owner m s = by_grant m s (λ (x : Slot). x.owner ≡ s.owner) (λ _. refl) (λ _. refl)

without_grant-kind : (m : ℕ) (s : Slot) (kind : Kind) → is_live_of kind (without_grant m s) ≡ is_live_of kind s
without_grant-kind m s kind = by_grant m s (λ (x : Slot). is_live_of kind x ≡ is_live_of kind s) (λ _. refl) (λ _. refl)

pub without_grant-thread : (m : ℕ) (s : Slot) → has_thread (without_grant m s) ≡ has_thread s
without_grant-thread m s = by_grant m s (λ (x : Slot). has_thread x ≡ has_thread s) (λ _. refl) (λ _. refl)

-- a slot that has no grants has not that one
none_granted : (m : ℕ) (s : Slot) → s.grants ≡ 0 → is_granted m s ≡ false
none_granted m s none = ap (λ n. bits n m 1 == 1) none ∙ ap (λ n. n == 1) (bit_at-zero m)

still_clean : (m : ℕ) (s : Slot) (state : SlotState) → is_granted m s ≡ true → IsClean s state → IsClean (record s { grants = s.grants - 2 ^ m }) state
still_clean m s Free granted clean = absurd (false≢true (sym (none_granted m s clean.1) ∙ granted))
still_clean m s Empty granted clean = absurd (false≢true (sym (none_granted m s clean.0) ∙ granted))
still_clean m s Live granted clean = clean

pub ungranting-sound : OneSlotChanges → (m : ℕ) (k : Kernel) (g : Memory) (o : ℕ) → IsSound k → o < 256 → IsSound (ungranting m k g o).kernel
ungranting-sound changes m k g o sound below =
    let s = slot k.objects o in
    changes k o (without_grant m s) sound below
    (by_grant m s (λ (x : Slot). IsClean x x.state) (λ granted. still_clean m s s.state granted (sound.formed.clean o below)) (λ _. sound.formed.clean o below))
    (without_grant-kind m s) (λ _. without_grant-owner m s)

ungranting-serves : SlotKeepsServing → (m : ℕ) (k : Kernel) (g : Memory) (o : ℕ) → Serves k g → o < 256 → Serves (ungranting m k g o).kernel g
ungranting-serves changes m k g o serves below =
    let s = slot k.objects o in
    changes k g o (without_grant m s) serves below
    (by_grant m s (λ (x : Slot). IsClean x x.state) (λ granted. still_clean m s s.state granted (serves.sound.formed.clean o below))
    (λ _. serves.sound.formed.clean o below))
    (without_grant-kind m s) (λ _. without_grant-owner m s)

pub ties_ended-serves : SlotKeepsServing → (m : ℕ) (k : Kernel) (g : Memory) → Serves k g → Serves (ties_ended k g m).kernel (ties_ended k g m).memory
ties_ended-serves changes m k g serves =
    for_each_slot_both (λ n j h. Serves j h) (ungranting m) (λ n j h below serves. ungranting-serves changes m j h n serves below) k g serves

-- what the slots lose, one after another
ungranting-here : (m : ℕ) (k : Kernel) (g : Memory) (o : ℕ) → o < length k.objects
    → slot (ungranting m k g o).kernel.objects o ≡ without_grant m (slot k.objects o)
ungranting-here m k g o size = get_or-set_same k.objects o (without_grant m (slot k.objects o)) (free_slot 0) size

ungranting-other : (m : ℕ) (k : Kernel) (g : Memory) (o u : ℕ) → u ≢ o → slot (ungranting m k g o).kernel.objects u ≡ slot k.objects u
ungranting-other m k g o u other = get_or-set_other k.objects o u (without_grant m (slot k.objects o)) (free_slot 0) other

-- of the slots of smaller numbers, each has lost the grant, and the others are as they were
abbrev AreUngrantedBelow : ℕ → Kernel → ℕ → Kernel → Type 0
AreUngrantedBelow m k n j =
    ((o : ℕ) → o < n → slot j.objects o ≡ without_grant m (slot k.objects o)) × ((o : ℕ) → (o < n → ⊥) → slot j.objects o ≡ slot k.objects o)

one_more_ungranted : (m : ℕ) (k : Kernel) (n : ℕ) (j : Kernel) (h : Memory) → n < length j.objects → AreUngrantedBelow m k n j
    → AreUngrantedBelow m k (suc n) (ungranting m j h n).kernel
one_more_ungranted m k n j h size before = (
  λ o below. ⊎_elim
      (λ (same : o ≡ n). subst (λ i. slot (ungranting m j h n).kernel.objects i ≡ without_grant m (slot k.objects i)) (sym same)
      (ungranting-here m j h n size ∙ ap (without_grant m) (before.1 n (λ impossible. omega arith))))
      (λ (other : o ≢ n). ungranting-other m j h n o other ∙ before.0 o (omega arith)) (cases_eq o n),
  λ o past. ungranting-other m j h n o (λ same. past (omega arith)) ∙ before.1 o (λ below. past (omega arith)),
)

pub ties_ended-is : OneSlotChanges → (m : ℕ) (k : Kernel) (g : Memory) → IsSound k
    → IsSound (ties_ended k g m).kernel × ((o : ℕ) → o < 256 → slot (ties_ended k g m).kernel.objects o ≡ without_grant m (slot k.objects o))
ties_ended-is changes m k g sound =
    let all = for_each_slot_keeps (λ n j. IsSound j × AreUngrantedBelow m k n j) (ungranting m)
    (λ n j h below kept. (ungranting-sound changes m j h n kept.0 below, one_more_ungranted m k n j h (omega (arith, kept.0.formed.slots)) kept.1))
    k g (sound, (λ o below. absurd (omega arith), λ o past. refl)) in
    (all.0, all.1.0)

pub ties_ended-thread : (m : ℕ) (k : Kernel) (g : Memory) (t : ℕ) → thread (ties_ended k g m).kernel t ≡ thread k t
ties_ended-thread m k g t = for_each_slot_keeps (λ n j. thread j t ≡ thread k t) (ungranting m) (λ n j h below same. same) k g refl

-- no byte changes
pub ties_ended-memory : (k : Kernel) (g : Memory) (m : ℕ) → (ties_ended k g m).memory ≡ g
ties_ended-memory k g m = for_each_slot_memory (ungranting m) (λ j h o. refl) k g

-- what holds of a slot without the grant and of a free one holds of every slot then
at_last : (P : Slot → Type 0) → OneSlotChanges → (m : ℕ) (k : Kernel) (g : Memory) (o : ℕ) → IsSound k
    → P (without_grant m (slot k.objects o)) → P (free_slot 0) → P (slot (ties_ended k g m).kernel.objects o)
at_last P changes m k g o sound inside outside =
    let now = (ties_ended k g m).kernel in
    let all = ties_ended-is changes m k g sound in
    ⊎_elim (λ below. subst P (sym (all.1 o below)) inside)
    (λ past. subst P (sym (get_or_past now.objects o (free_slot 0) (omega (arith, all.0.formed.slots)))) outside) (cases_lt o 256)

pub ties_ended-owns : OneSlotChanges → (m : ℕ) (k : Kernel) (g : Memory) (o : ℕ) → IsSound k → owns m (slot k.objects o) ≡ false
    → owns m (slot (ties_ended k g m).kernel.objects o) ≡ false
ties_ended-owns changes m k g o sound none =
    at_last (λ (s : Slot). owns m s ≡ false) changes m k g o sound (without_grant-owns m m (slot k.objects o) ∙ none) refl

pub ties_ended-grants : OneSlotChanges → (m : ℕ) (k : Kernel) (g : Memory) (o : ℕ) → IsSound k → is_granted m (slot (ties_ended k g m).kernel.objects o) ≡ false
ties_ended-grants changes m k g o sound =
    at_last (λ (s : Slot). is_granted m s ≡ false) changes m k g o sound (without_grant-gone m (slot k.objects o)) (none_granted m (free_slot 0) refl)
