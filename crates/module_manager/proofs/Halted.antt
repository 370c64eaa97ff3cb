-- A halt, whole: what it leaves of other modules, and that nothing of its own module is left.
use Rattle.std.proofs.Common.{◌≡◌, ◌≢◌, ℕ, ◌<◌, true, false, Option, None, Some, IfSome, refl, sym, ap, ◌∙◌, subst, ⊎_elim}
use Rattle.std.proofs.lemmas.Bool.{cases_eq, false≢true, false_from_ne_true}
use Rattle.object_grants.specs.Slot.{owns, without_grant}
use Rattle.object_grants.specs.Table.{slot}
use Rattle.region_guard.specs.Memory.{Memory}
use Rattle.kernel_state.specs.Kernel.{thread, has_thread, is_thread, module_of, spot}
use Rattle.kernel_state.specs.Change.{Change}
use Rattle.kernel_state.specs.Sound.{IsSound}
use Rattle.kernel_state.specs.Thread.{is_over}
use Rattle.kernel_state.specs.declared.kernel.Kernel.{Kernel}
use Rattle.kernel_state.specs.declared.thread.Thread.{Thread}
use Rattle.module_manager.specs.Halt.{clearing, ending, halted, slots_cleared, threads_ended}
use Rattle.module_manager.specs.Laws.{ClearingKeepsServing, EndKeepsServing, HaltEndsCallback, HaltEndsGrants, HaltEndsSlots, HaltKeepsMemory, HaltKeepsServing, HaltSparesSlots, HaltSparesThreads}
use Rattle.module_manager.proofs.Clearing.{Removes, Serving, by_clearing, clearing-other, clearing-over, clearing-serves, owner-thread, owner_is, owns-thread}
use Rattle.module_manager.proofs.Clearing.{slots_cleared-memory, slots_cleared-serves, slots_cleared-sound-free, slots_cleared-thread}
use Rattle.module_manager.proofs.Ending.{Ends, threads_ended-memory, threads_ended-serves, threads_ended-sound-over, below_256, by_ending, ending-objects}
use Rattle.module_manager.proofs.Ending.{ending-other}
use Rattle.module_manager.proofs.Folds.{for_each_slot_keeps}
use Rattle.module_manager.proofs.Ungranting.{ties_ended-grants, ties_ended-is, ties_ended-memory, ties_ended-owns, ties_ended-serves, ties_ended-thread, without_grant-thread}

-- the laws of the layer below
pub record Lower : Type 0 where
  pub ends : Ends
  pub removes : Removes
  pub serving : Serving

-- kernel and memory after each step but the last
abbrev kernel_1 : Kernel → Memory → ℕ → Kernel
kernel_1 k g m = (threads_ended k g m).kernel

abbrev memory_1 : Kernel → Memory → ℕ → Memory
memory_1 k g m = (threads_ended k g m).memory

abbrev kernel_3 : Kernel → Memory → ℕ → Kernel
kernel_3 k g m = (slots_cleared (kernel_1 k g m) (memory_1 k g m) m).kernel

abbrev memory_3 : Kernel → Memory → ℕ → Memory
memory_3 k g m = (slots_cleared (kernel_1 k g m) (memory_1 k g m) m).memory

-- the threads' end leaves every slot, and each thread of another module
threads_ended-objects : Ends → (m : ℕ) (k : Kernel) (g : Memory) → (threads_ended k g m).kernel.objects ≡ k.objects
threads_ended-objects ends m k g =
    for_each_slot_keeps (λ n j. j.objects ≡ k.objects) (ending m) (λ n j h below same. ending-objects ends m j h n ∙ same) k g refl

one-ending-spares : Ends → (m : ℕ) (k j : Kernel) (h : Memory) (t n : ℕ) → module_of k t ≢ m → thread j t ≡ thread k t
    → thread (ending m j h n).kernel t ≡ thread k t
one-ending-spares ends m k j h t n other_module same =
    ⊎_elim (λ (here : t ≡ n). subst (λ i. thread (ending m j h i).kernel t ≡ thread k t) here
    (by_ending ends m j h t (λ i. thread i t ≡ thread k t) (λ _. same) (λ _ _ _ _ _. same)
    (λ _ own _ _ _. absurd (other_module (sym (ap (λ (x : Thread). x.module) same) ∙ own)))))
    (λ (other : t ≢ n). ending-other ends m j h n t other ∙ same) (cases_eq t n)

threads_ended-spares : Ends → (m : ℕ) (k : Kernel) (g : Memory) (t : ℕ) → module_of k t ≢ m → thread (threads_ended k g m).kernel t ≡ thread k t
threads_ended-spares ends m k g t other_module =
    for_each_slot_keeps (λ n j. thread j t ≡ thread k t) (ending m) (λ n j h below same. one-ending-spares ends m k j h t n other_module same) k g refl

-- the slots' end leaves each slot that isn't the module's
one-clearing-spares : Removes → (m : ℕ) (k j : Kernel) (h : Memory) (o n : ℕ) → owns m (slot k.objects o) ≡ false → slot j.objects o ≡ slot k.objects o
    → slot (clearing m j h n).kernel.objects o ≡ slot k.objects o
one-clearing-spares removes m k j h o n others same =
    let not_own = λ (own : owns m (slot j.objects o) ≡ true). false≢true (sym others ∙ (sym (ap (owns m) same) ∙ own)) in
    ⊎_elim (λ (here : o ≡ n). subst (λ i. slot (clearing m j h i).kernel.objects o ≡ slot k.objects o) here
    (by_clearing m j h o (λ (c : Change). slot c.kernel.objects o ≡ slot k.objects o) (λ _. same) (λ own _. absurd (not_own own))
    (λ own _ _. absurd (not_own own)) (λ own _. absurd (not_own own))))
    (λ (other : o ≢ n). clearing-other removes m j h n o other ∙ same) (cases_eq o n)

slots_cleared-spares : Removes → (m : ℕ) (k : Kernel) (g : Memory) (o : ℕ) → owns m (slot k.objects o) ≡ false
    → slot (slots_cleared k g m).kernel.objects o ≡ slot k.objects o
slots_cleared-spares removes m k g o others =
    for_each_slot_keeps (λ n j. slot j.objects o ≡ slot k.objects o) (clearing m)
    (λ n j h below same. one-clearing-spares removes m k j h o n others same) k g refl

-- a halt up to its last step
before_last : Lower → (m : ℕ) (k : Kernel) (g : Memory) → IsSound k
    → IsSound (kernel_3 k g m) × ((o : ℕ) → owns m (slot (kernel_3 k g m).objects o) ≡ false)
before_last lower m k g sound =
    let over = threads_ended-sound-over lower.ends m k g sound in
    slots_cleared-sound-free lower.removes m (kernel_1 k g m) (memory_1 k g m) over.0 over.1

halt-sound : Lower → (k : Kernel) (g : Memory) (m : ℕ) → IsSound k → IsSound (halted k g m).kernel
halt-sound lower k g m sound = (ties_ended-is lower.removes.changes m (kernel_3 k g m) (memory_3 k g m) (before_last lower m k g sound).0).0

pub end_keeps_serving : Ends → EndKeepsServing
end_keeps_serving ends k g m serves = (threads_ended-serves ends.serving m k g serves, (threads_ended-sound-over ends m k g serves.sound).1)

pub clearing_keeps_serving : Removes → Serving → ClearingKeepsServing
clearing_keeps_serving removes serving k g m o serves over =
    (clearing-serves removes serving m k g o serves over, clearing-over removes m k g o serves.sound over)

pub halt_keeps_serving : Lower → HaltKeepsServing
halt_keeps_serving lower k g m serves =
    let ended = end_keeps_serving lower.ends k g m serves in
    let cleared = slots_cleared-serves lower.removes lower.serving m (kernel_1 k g m) (memory_1 k g m) ended.0 ended.1 in
    ties_ended-serves lower.serving.changes m (kernel_3 k g m) (memory_3 k g m) cleared

pub halt_keeps_memory : Lower → HaltKeepsMemory
halt_keeps_memory lower k g m =
    ties_ended-memory (kernel_3 k g m) (memory_3 k g m) m
    ∙ (slots_cleared-memory lower.removes (kernel_1 k g m) (memory_1 k g m) m ∙ threads_ended-memory lower.ends k g m)

pub halt_spares_slots : Lower → HaltSparesSlots
halt_spares_slots lower k g m o sound below others =
    let last = before_last lower m k g sound in
    let stays : slot (kernel_1 k g m).objects o ≡ slot k.objects o = ap (λ slots. slot slots o) (threads_ended-objects lower.ends m k g) in
    (ties_ended-is lower.removes.changes m (kernel_3 k g m) (memory_3 k g m) last.0).1 o below
    ∙ ap (without_grant m) (slots_cleared-spares lower.removes m (kernel_1 k g m) (memory_1 k g m) o (ap (owns m) stays ∙ others) ∙ stays)

pub halt_spares_threads : Lower → HaltSparesThreads
halt_spares_threads lower k g m t sound live other_module =
    let others = false_from_ne_true (owns m (slot k.objects t)) (λ own. other_module (owner-thread k t sound live ∙ owner_is m (slot k.objects t) own)) in
    let over = threads_ended-sound-over lower.ends m k g sound in
    let first = threads_ended-spares lower.ends m k g t other_module in
    let third = slots_cleared-thread lower.removes m (kernel_1 k g m) (memory_1 k g m) t over.0 over.1 in
    let last = ties_ended-thread m (kernel_3 k g m) (memory_3 k g m) t in (
      ap has_thread (halt_spares_slots lower k g m t sound (below_256 k t sound live) others) ∙ (without_grant-thread m (slot k.objects t) ∙ live),
      ap (λ (x : Thread). x.module) last ∙ (third.0 ∙ ap (λ (x : Thread). x.module) first),
      ap (λ (x : Thread). is_over x.state) last ∙ (third.1 ∙ ap (λ (x : Thread). is_over x.state) first),
    )

pub halt_ends_slots : Lower → HaltEndsSlots
halt_ends_slots lower k g m o sound =
    let last = before_last lower m k g sound in
    ties_ended-owns lower.removes.changes m (kernel_3 k g m) (memory_3 k g m) o last.0 (last.1 o)

pub halt_ends_grants : Lower → HaltEndsGrants
halt_ends_grants lower k g m o sound =
    ties_ended-grants lower.removes.changes m (kernel_3 k g m) (memory_3 k g m) o (before_last lower m k g sound).0

-- a callback thread would be a thread of the module's own
none_left : (o : Option ℕ) (P : ℕ → Type 0) → IfSome o P → ((t : ℕ) → P t → ⊥) → o ≡ None
none_left None P of_each never = refl
none_left (Some t) P of_each never = absurd (never t of_each)

pub halt_ends_callback : Lower → HaltEndsCallback
halt_ends_callback lower k g m sound below =
    let after = (halted k g m).kernel in
    let right : IsSound after = halt-sound lower k g m sound in
    none_left (spot after m).callback (λ t. (t < 256) × (is_thread after t ≡ true) × (module_of after t ≡ m)) (right.formed.places m below).callback
    (λ t own. false≢true (sym (halt_ends_slots lower k g m t sound) ∙ owns-thread after t m right own.1 own.2))
