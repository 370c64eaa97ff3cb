-- The thread that runs, and its step.
use Rattle.std.proofs.Common.{◌≡◌, ℕ, ◌<◌, ◌≤◌, true, None, Some, refl, sym, ap, ◌∙◌, ⊎_elim, arith}
use Rattle.std.proofs.lemmas.Bool.{cases_lt, false≢true}
use Rattle.std.proofs.lemmas.List.{get_or-set_same, get_or_past}
use Rattle.object_grants.specs.Slot.{free_slot}
use Rattle.region_guard.specs.Memory.{Memory}
use Rattle.rv_core.specs.Execute.{Effect}
use Rattle.rv_core.specs.Hart.{HartState}
use Rattle.kernel_state.specs.Kernel.{thread, has_thread, is_thread}
use Rattle.kernel_state.specs.Laws.{OneHartChanges, RunningIsReady, ReadyIsThread}
use Rattle.kernel_state.specs.Serves.{Serves}
use Rattle.kernel_state.specs.Sound.{IsSound}
use Rattle.kernel_state.specs.Thread.{blank_thread}
use Rattle.kernel_state.specs.WaitLaws.{PromisesStay}
use Rattle.kernel_state.specs.declared.kernel.Kernel.{Kernel}
use Rattle.board_core.specs.Step.{after_effect, next_effect, stepped, stepped_by, with_hart}
use Rattle.board_core.specs.declared.parts.Parts.{Parts}

-- a thread has a number below 256
thread_below : (k : Kernel) (t : ℕ) → IsSound k → is_thread k t ≡ true → t < 256
thread_below k t sound is =
    ⊎_elim (λ below. below)
    (λ (past : 256 ≤ t).
    let none = get_or_past k.objects t (free_slot 0) (omega (arith, sound.formed.slots)) in
    absurd (false≢true (sym (ap has_thread none) ∙ is)))
    (cases_lt t 256)

pub running_below : RunningIsReady → ReadyIsThread → (k : Kernel) (t : ℕ) → IsSound k → k.ready.run ≡ Some t → t < 256
running_below is_ready is_thread k t sound runs = thread_below k t sound (is_thread k t sound (is_ready k t sound runs))

-- the thread whose registers are set
pub thread-with_hart : (k : Kernel) (t : ℕ) (h : HartState) → IsSound k → t < 256 → thread (with_hart k t h) t ≡ record (thread k t) { hart = h }
thread-with_hart k t h sound below = get_or-set_same k.threads t (record (thread k t) { hart = h }) blank_thread (omega (arith, sound.formed.threads))

-- the kernel serves as before
pub serves-with_hart : OneHartChanges → (k : Kernel) (g : Memory) (t : ℕ) (h : HartState) → Serves k g → t < 256 → Serves (with_hart k t h) g
serves-with_hart hart k g t h serves below =
    record { sound = hart k t h serves.sound below; running = serves.running; promised = serves.promised }

-- so it does over memory whose regions are the same
pub serves_over : PromisesStay → (k : Kernel) (g h : Memory) → h.regions ≡ g.regions → Serves k g → Serves k h
serves_over promises k g h same serves = record {
  sound = serves.sound;
  running = serves.running;
  promised = promises k k g h serves.promised same (λ t w is. record { is = is; owner = refl; words = refl });
}

-- the step of a thread that runs, by its effect
pub stepped_is : (p : Parts) (t : ℕ) (e : Effect) → p.kernel.ready.run ≡ Some t → next_effect p t ≡ e → stepped p ≡ after_effect p t e
unfolding stepped
stepped_is p t e runs is = ap (stepped_by p) runs ∙ ap (after_effect p t) is

-- where no thread runs nothing changes
pub stepped_idle : (p : Parts) → p.kernel.ready.run ≡ None → stepped p ≡ p
unfolding stepped
stepped_idle p idle = ap (stepped_by p) idle
