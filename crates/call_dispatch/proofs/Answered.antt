-- What an answer leaves of a kernel: all but the a0 of its thread.
use Rattle.std.proofs.Common.{◌≡◌, ◌≢◌, ℕ, ◌<◌, ◌≤◌, length, ap, refl, sym, ◌∙◌, subst, ⊎_elim}
use Rattle.std.specs.List.{slice_index_or}
use Rattle.std.proofs.lemmas.Bool.{cases_eq, cases_lt}
use Rattle.std.proofs.lemmas.List.{get_or-set_same, get_or-set_other, set_past}
use Rattle.rv_core.specs.Hart.{HartState, with_register}
use Rattle.region_guard.specs.Memory.{Memory}
use Rattle.soft_timers.specs.Timers.{IsRunning}
use Rattle.kernel_state.specs.Contents.{ArePromised}
use Rattle.kernel_state.specs.Kernel.{thread}
use Rattle.kernel_state.specs.Registers.{with_a0}
use Rattle.kernel_state.specs.Serves.{Serves}
use Rattle.kernel_state.specs.Sound.{IsSound}
use Rattle.kernel_state.specs.Thread.{blank_thread}
use Rattle.kernel_state.specs.declared.answer.Answer.{Answer}
use Rattle.kernel_state.specs.declared.answer.Answer.TheVariants.{Code, Value, Waits, Ended}
use Rattle.kernel_state.specs.declared.kernel.Kernel.{Kernel}
use Rattle.kernel_state.specs.declared.thread.Thread.{Thread}
use Rattle.call_dispatch.specs.Caller.{ChangesA0Alone}
use Rattle.call_dispatch.specs.Ecall.{with_answer}

-- nothing changes but its threads
pub threads_alone : (k : Kernel) (t : ℕ) (answer : Answer) → with_answer k t answer ≡ record k { threads = (with_answer k t answer).threads }
unfolding with_answer
threads_alone k t (Code c) = refl
threads_alone k t (Value v) = refl
threads_alone k t Waits = refl
threads_alone k t Ended = refl

-- so what served serves
abbrev RunsAndIsPromised : Memory → Kernel → Type 0
RunsAndIsPromised g k = IsRunning k.wheel × ArePromised g k.objects k.queues k.waits

pub answered_serves : (k now : Kernel) (g : Memory) (t : ℕ) (answer : Answer) → Serves k g → now ≡ with_answer k t answer → IsSound now → Serves now g
answered_serves k now g t answer serves after sound =
    let left = subst (RunsAndIsPromised g) (sym (after ∙ threads_alone k t answer)) (serves.running, serves.promised) in
    record { sound = sound; running = left.0; promised = left.1 }

-- no register changes
none_put : (h : HartState) → ChangesA0Alone h h
none_put h = record { pc = refl; registers = λ r other. refl }

-- what an answer does to the registers of its thread
a0_put : (k : Kernel) (t v : ℕ) → ChangesA0Alone (thread k t).hart (thread (with_a0 k t v) t).hart
a0_put k t v =
    let h = (thread k t).hart in
    let put : Thread = record (thread k t) { hart = with_register h 10 v } in
    ⊎_elim
    (λ (within : t < length k.threads). subst (λ (x : Thread). ChangesA0Alone h x.hart) (sym (get_or-set_same k.threads t put blank_thread within))
    (record { pc = refl; registers = λ r other. get_or-set_other h.x 10 r v 0 other }))
    (λ (past : length k.threads ≤ t). subst (λ ts. ChangesA0Alone h (slice_index_or ts t blank_thread).hart) (sym (set_past k.threads t put past)) (none_put h))
    (cases_lt t (length k.threads))

pub answer_is_put : (k : Kernel) (t : ℕ) (answer : Answer) → ChangesA0Alone (thread k t).hart (thread (with_answer k t answer) t).hart
unfolding with_answer
answer_is_put k t (Code c) = a0_put k t c
answer_is_put k t (Value v) = a0_put k t v
answer_is_put k t Waits = none_put (thread k t).hart
answer_is_put k t Ended = none_put (thread k t).hart

-- no thread changes its state
a0-state : (k : Kernel) (t v u : ℕ) → (thread (with_a0 k t v) u).state ≡ (thread k u).state
a0-state k t v u =
    let put : Thread = record (thread k t) { hart = with_register (thread k t).hart 10 v } in
    ⊎_elim
    (λ (same : u ≡ t). subst (λ n. (thread (with_a0 k t v) n).state ≡ (thread k n).state) (sym same)
    (⊎_elim
    (λ (within : t < length k.threads). ap (λ (x : Thread). x.state) (get_or-set_same k.threads t put blank_thread within))
    (λ (past : length k.threads ≤ t). ap (λ ts. (slice_index_or ts t blank_thread).state) (set_past k.threads t put past))
    (cases_lt t (length k.threads))))
    (λ (other : u ≢ t). ap (λ (x : Thread). x.state) (get_or-set_other k.threads t u put blank_thread other))
    (cases_eq u t)

pub answer-state : (k : Kernel) (t u : ℕ) (answer : Answer) → (thread (with_answer k t answer) u).state ≡ (thread k u).state
unfolding with_answer
answer-state k t u (Code c) = a0-state k t c u
answer-state k t u (Value v) = a0-state k t v u
answer-state k t u Waits = refl
answer-state k t u Ended = refl
