-- What a tick leaves alone: object slots, and memory.
use Rattle.std.proofs.Common.{◌≡◌, ℕ, ◌==◌, ◌&&◌, ◌-◌, nat_lt, List, [], ◌∷◌, Option, None, Some, refl, ◌∙◌}
use Rattle.std.proofs.lemmas.Bool.{cond_both}
use Rattle.tx_types.specs.declared.waits.End.TheVariants.{TimedOut}
use Rattle.region_guard.specs.Memory.{Memory}
use Rattle.soft_timers.specs.Timers.{still}
use Rattle.soft_timers.specs.declared.due.Armed.{Armed}
use Rattle.suspend_lists.specs.Waits.{wait_of}
use Rattle.kernel_state.specs.Change.{Change}
use Rattle.kernel_state.specs.Kernel.{thread}
use Rattle.kernel_state.specs.Ticks.{advanced, expired, has_slice, runs, slice_treated, slice_used, tick_counted, turn, turns}
use Rattle.kernel_state.specs.Waiting.{answer_of, gone_on, left_wait, wait_ended, with_answer_to}
use Rattle.kernel_state.specs.declared.kernel.Kernel.{Kernel}

-- a change leaves slots and memory
pub record Spares (k : Kernel) (g : Memory) (c : Change) : Type 0 where
  pub objects : c.kernel.objects ≡ k.objects
  pub memory : c.memory ≡ g

-- a timeout ends a wait without a result
answer-objects : (k : Kernel) (t : ℕ) (a0 : Option ℕ) → (with_answer_to k t a0).objects ≡ k.objects
answer-objects k t None = refl
answer-objects k t (Some a) = refl

gone_on-objects : (k : Kernel) (t : ℕ) → (gone_on k t).objects ≡ k.objects
gone_on-objects k t = cond_both (thread k t).held _ _ (λ (q : Kernel). q.objects ≡ k.objects) (λ _. refl) (λ _. refl)

timeout_spares : (k : Kernel) (g : Memory) (t : ℕ) → Spares k g (wait_ended k g t TimedOut [])
timeout_spares k g t =
    let a0 = answer_of (wait_of k.waits t) TimedOut in
    let left = left_wait k t TimedOut in
    record { objects = gone_on-objects (with_answer_to left t a0) t ∙ answer-objects left t a0; memory = refl }

-- what is due has its turn
expired_spares : (k : Kernel) (g : Memory) (id : ℕ) → Spares k g (expired k g id)
expired_spares k g id =
    cond_both (nat_lt id 256) _ _ (Spares k g) (λ _. timeout_spares k g id) (λ _. record { objects = refl; memory = refl })

turn_spares : (k : Kernel) (g : Memory) (d : Armed) → Spares k g (turn k g d)
turn_spares k g d =
    cond_both (still k.wheel d) _ _ (Spares k g) (λ _. expired_spares k g d.id) (λ _. record { objects = refl; memory = refl })

turns_spares : (ds : List Armed) (k : Kernel) (g : Memory) → Spares k g (turns ds k g)
turns_spares [] k g = record { objects = refl; memory = refl }
turns_spares (d ∷ ds) k g =
    let first = turn_spares k g d in
    let c = turn k g d in
    let rest = turns_spares ds c.kernel c.memory in
    record { objects = rest.objects ∙ first.objects; memory = rest.memory ∙ first.memory }

-- the time slice
used-objects : (k : Kernel) (t : ℕ) → (slice_used k t).objects ≡ k.objects
used-objects k t = cond_both ((thread k t).left - 1 == 0) _ _ (λ (q : Kernel). q.objects ≡ k.objects) (λ _. refl) (λ _. refl)

slice-objects : (ran : Option ℕ) (k : Kernel) → (slice_treated ran k).objects ≡ k.objects
slice-objects None k = refl
slice-objects (Some t) k =
    cond_both (runs k t && has_slice (thread k t)) _ _ (λ (q : Kernel). q.objects ≡ k.objects) (λ _. used-objects k t) (λ _. refl)

pub tick_spares : (k : Kernel) (g : Memory) → Spares k g (advanced k g)
tick_spares k g =
    let now = tick_counted k in
    let c = turns now.due now g in
    let all = turns_spares now.due now g in
    record { objects = slice-objects k.ready.run (record c.kernel { due = [] }) ∙ all.objects; memory = all.memory }
