-- A thread of a module ends: the kernel stays sound, and at last all threads of the module are over.
use Rattle.std.proofs.Common.{◌≡◌, ◌≢◌, ℕ, suc, ◌<◌, ◌==◌, ◌&&◌, true, false, List, refl, sym, ap, ◌∙◌, subst, inr, ⊎_elim, arith}
use Rattle.std.proofs.lemmas.Bool.{and_parts, and_from, cases_eq, cases_lt, cond_both, eq-eqb, eqb-true, false≢true}
use Rattle.std.proofs.lemmas.List.{get_or-set_same, get_or-set_other, get_or_past}
use Rattle.tx_types.specs.declared.state.State.TheVariants.{Terminated}
use Rattle.object_grants.specs.Slot.{free_slot}
use Rattle.object_grants.specs.Table.{slot}
use Rattle.object_grants.specs.declared.slot.Slot.{Slot}
use Rattle.ready_maps.specs.Sched.{Sched}
use Rattle.region_guard.specs.Memory.{Memory}
use Rattle.soft_timers.specs.Timers.{TimerTable}
use Rattle.suspend_lists.specs.Waits.{WaitTable}
use Rattle.kernel_state.specs.Change.{Change, quiet}
use Rattle.kernel_state.specs.Kernel.{thread, has_thread, is_thread, module_of}
use Rattle.kernel_state.specs.Laws.{with_all}
use Rattle.kernel_state.specs.Sound.{IsSound}
use Rattle.kernel_state.specs.Serves.{Serves}
use Rattle.kernel_state.specs.Thread.{blank_thread, is_over}
use Rattle.kernel_state.specs.ThreadChanges.{ended}
use Rattle.kernel_state.specs.ThreadLaws.{EndKeepsServing, EndKeepsSound}
use Rattle.kernel_state.specs.WaitLaws.{EndChangesOne, EndKeepsMemory, with_waits}
use Rattle.kernel_state.specs.declared.kernel.Kernel.{Kernel}
use Rattle.kernel_state.specs.declared.thread.Thread.{Thread}
use Rattle.module_manager.specs.Halt.{AreOver, ending, threads_ended}
use Rattle.module_manager.proofs.Folds.{for_each_slot_both, for_each_slot_keeps, for_each_slot_memory}

-- what is a thread has a number below 256
pub below_256 : (k : Kernel) (t : ℕ) → IsSound k → is_thread k t ≡ true → t < 256
below_256 k t sound live = ⊎_elim (λ below. below) (λ past.
    absurd (false≢true (sym (ap has_thread (get_or_past k.objects t (free_slot 0) (omega (arith, sound.formed.slots)))) ∙ live))) (cases_lt t 256)

-- a thread that goes on, as it is terminated
abbrev terminated : Kernel → ℕ → Thread
terminated k t = record (thread k t) { state = Terminated; held = false }

-- the laws of the layer below on the end of a thread
pub record Ends : Type 0 where
  pub sound : EndKeepsSound
  pub serving : EndKeepsServing
  pub one : EndChangesOne
  pub memory : EndKeepsMemory

-- a thread isn't the module's, or is over already; or it goes on, and is terminated; whatever the scheduler and the waits become
pub by_ending : Ends → (m : ℕ) (k : Kernel) (g : Memory) (t : ℕ) (P : Kernel → Type 0)
    → ((is_thread k t && (module_of k t == m)) ≡ false → P k)
    → (is_thread k t ≡ true → module_of k t ≡ m → is_over (thread k t).state ≡ true → (w : WaitTable) (h : TimerTable) → P (with_waits k w h))
    → (is_thread k t ≡ true → module_of k t ≡ m → (s : Sched) (w : WaitTable) (h : TimerTable) → P (with_all k t (terminated k t) s w h))
    → P (ending m k g t).kernel
by_ending ends m k g t P other over goes_on =
    cond_both (is_thread k t && (module_of k t == m)) (ended k g t Terminated) (quiet k g) (λ (c : Change). P c.kernel)
    (λ own. let parts = and_parts (is_thread k t) (module_of k t == m) own in
    let of_m = eqb-true (module_of k t) m parts.1 in
    let now = (ended k g t Terminated).kernel in
    subst P (sym (ends.one k g t Terminated))
    (cond_both (is_over (thread k t).state) k _ (λ (j : Kernel). P (with_waits j now.waits now.wheel))
    (λ is. over parts.0 of_m is now.waits now.wheel) (λ _. goes_on parts.0 of_m _ now.waits now.wheel)))
    other

-- no slot and no other thread changes
pub ending-objects : Ends → (m : ℕ) (k : Kernel) (g : Memory) (t : ℕ) → (ending m k g t).kernel.objects ≡ k.objects
ending-objects ends m k g t = by_ending ends m k g t (λ j. j.objects ≡ k.objects) (λ _. refl) (λ _ _ _ _ _. refl) (λ _ _ _ _ _. refl)

pub ending-other : Ends → (m : ℕ) (k : Kernel) (g : Memory) (t u : ℕ) → u ≢ t → thread (ending m k g t).kernel u ≡ thread k u
ending-other ends m k g t u other =
    by_ending ends m k g t (λ j. thread j u ≡ thread k u) (λ _. refl) (λ _ _ _ _ _. refl)
    (λ _ _ _ _ _. get_or-set_other k.threads t u (terminated k t) blank_thread other)

-- a thread of the module is over then
pub ending-over : Ends → (m : ℕ) (k : Kernel) (g : Memory) (t : ℕ) → IsSound k → is_thread k t ≡ true → module_of k t ≡ m
    → is_over (thread (ending m k g t).kernel t).state ≡ true
ending-over ends m k g t sound live own =
    let below = below_256 k t sound live in
    by_ending ends m k g t (λ j. is_over (thread j t).state ≡ true)
    (λ none. absurd (false≢true (sym none ∙ and_from (is_thread k t) (module_of k t == m) live (eq-eqb (module_of k t) m own))))
    (λ _ _ over _ _. over)
    (λ _ _ _ _ _. ap (λ (x : Thread). is_over x.state) (get_or-set_same k.threads t (terminated k t) blank_thread (omega (arith, sound.formed.threads))))

-- every thread keeps its module
pub ending-module : Ends → (m : ℕ) (k : Kernel) (g : Memory) (t u : ℕ) → IsSound k → module_of (ending m k g t).kernel u ≡ module_of k u
ending-module ends m k g t u sound =
    ⊎_elim (λ (same : u ≡ t). subst (λ n. module_of (ending m k g t).kernel n ≡ module_of k n) (sym same)
    (by_ending ends m k g t (λ j. module_of j t ≡ module_of k t) (λ _. refl) (λ _ _ _ _ _. refl)
    (λ live _ _ _ _. let below = below_256 k t sound live in
    ap (λ (x : Thread). x.module) (get_or-set_same k.threads t (terminated k t) blank_thread (omega (arith, sound.formed.threads))))))
    (λ (other : u ≢ t). ap (λ (x : Thread). x.module) (ending-other ends m k g t u other)) (cases_eq u t)

ending-sound : EndKeepsSound → (m : ℕ) (k : Kernel) (g : Memory) (t : ℕ) → IsSound k → IsSound (ending m k g t).kernel
ending-sound ends m k g t sound =
    cond_both (is_thread k t && (module_of k t == m)) (ended k g t Terminated) (quiet k g) (λ (c : Change). IsSound c.kernel)
    (λ own. ends k g t Terminated sound (and_parts (is_thread k t) (module_of k t == m) own).0 (inr refl)) (λ _. sound)

pub ending-serves : EndKeepsServing → (m : ℕ) (k : Kernel) (g : Memory) (t : ℕ) → Serves k g → Serves (ending m k g t).kernel (ending m k g t).memory
ending-serves ends m k g t serves =
    cond_both (is_thread k t && (module_of k t == m)) (ended k g t Terminated) (quiet k g) (λ (c : Change). Serves c.kernel c.memory)
    (λ own. ends k g t Terminated serves (and_parts (is_thread k t) (module_of k t == m) own).0 (inr refl)) (λ _. serves)

-- no byte changes
pub ending-memory : Ends → (m : ℕ) (k : Kernel) (g : Memory) (t : ℕ) → (ending m k g t).memory ≡ g
ending-memory ends m k g t =
    cond_both (is_thread k t && (module_of k t == m)) (ended k g t Terminated) (quiet k g)
    (λ (c : Change). c.memory ≡ g) (λ _. ends.memory k g t Terminated) (λ _. refl)

pub threads_ended-memory : Ends → (k : Kernel) (g : Memory) (m : ℕ) → (threads_ended k g m).memory ≡ g
threads_ended-memory ends k g m = for_each_slot_memory (ending m) (ending-memory ends m) k g

-- of the threads of smaller numbers, those of the module are over
abbrev AreOverBelow : ℕ → ℕ → Kernel → Type 0
AreOverBelow m n k = (t : ℕ) → t < n → is_thread k t ≡ true → module_of k t ≡ m → is_over (thread k t).state ≡ true

one_more_over : Ends → (m n : ℕ) (k : Kernel) (g : Memory) → IsSound k → AreOverBelow m n k → AreOverBelow m (suc n) (ending m k g n).kernel
one_more_over ends m n k g sound below_n t below live own =
    let was_live : is_thread k t ≡ true = subst (λ (slots : List Slot). has_thread (slot slots t) ≡ true) (ending-objects ends m k g n) live in
    let was_own : module_of k t ≡ m = sym (ending-module ends m k g n t sound) ∙ own in
    ⊎_elim (λ (same : t ≡ n). subst (λ j. is_over (thread (ending m k g n).kernel j).state ≡ true) (sym same)
    (ending-over ends m k g n sound (subst (λ j. is_thread k j ≡ true) same was_live) (subst (λ j. module_of k j ≡ m) same was_own)))
    (λ (other : t ≢ n). subst (λ (x : Thread). is_over x.state ≡ true) (sym (ending-other ends m k g n t other)) (below_n t (omega arith) was_live was_own))
    (cases_eq t n)

pub threads_ended-sound-over : Ends → (m : ℕ) (k : Kernel) (g : Memory) → IsSound k
    → IsSound (threads_ended k g m).kernel × AreOver (threads_ended k g m).kernel m
threads_ended-sound-over ends m k g sound =
    let now = (threads_ended k g m).kernel in
    let all = for_each_slot_keeps (λ n j. IsSound j × AreOverBelow m n j) (ending m)
    (λ n j h below kept. (ending-sound ends.sound m j h n kept.0, one_more_over ends m n j h kept.0 kept.1)) k g (sound, λ t below. absurd (omega arith)) in
    (all.0, λ t live own. all.1 t (below_256 now t all.0 live) live own)

-- the kernel serves, as it did
pub threads_ended-serves : EndKeepsServing → (m : ℕ) (k : Kernel) (g : Memory) → Serves k g → Serves (threads_ended k g m).kernel (threads_ended k g m).memory
threads_ended-serves ends m k g serves = for_each_slot_both (λ n j h. Serves j h) (ending m) (λ n j h below. ending-serves ends m j h n) k g serves
