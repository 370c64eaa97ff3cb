-- A thread's registers, and what is after a burst.
use Rattle.std.proofs.Common.{◌≡◌, ◌≢◌, ℕ, ◌+◌, ◌<◌, ◌≤◌, List, length, set, Option, None, Some, refl, sym, ap, ◌∙◌, ⊎_elim}
use Rattle.std.proofs.lemmas.Bool.{cases_lt}
use Rattle.std.proofs.lemmas.List.{get_or-set_same, set-get_or, set-set, set_past}
use Rattle.kernel_state.specs.Kernel.{thread}
use Rattle.kernel_state.specs.Thread.{blank_thread}
use Rattle.kernel_state.specs.declared.kernel.Kernel.{Kernel}
use Rattle.kernel_state.specs.declared.thread.Thread.{Thread}
use Rattle.region_guard.specs.Memory.{Memory}
use Rattle.rv_core.specs.Execute.{Effect, Completes, Stores, Calls, Faults}
use Rattle.rv_core.specs.Hart.{HartState}
use Rattle.rv_core.specs.declared.bus.Cause.{Cause}
use Rattle.rv_core.specs.declared.execute.Out.TheVariants.{Done, Call, Fault}
use Rattle.board_core.specs.Burst.{Burst, hart_at, made_by, out_at}
use Rattle.board_core.specs.Step.{after_call, after_fault, ran_on, with_hart}
use Rattle.board_core.specs.declared.parts.Parts.{Parts}
use Rattle.board_core.proofs.BurstSteps.{Ends}

-- a thread that gets its own registers is as it was
pub with_hart-same : (k : Kernel) (t : ℕ) → with_hart k t (thread k t).hart ≡ k
with_hart-same k t = ap (λ (ts : List Thread). record k { threads = ts }) (set-get_or k.threads t blank_thread)

-- registers that are set twice are those that were set last
pub with_hart-twice : (k : Kernel) (t : ℕ) (h now : HartState) → with_hart (with_hart k t h) t now ≡ with_hart k t now
with_hart-twice k t h now =
    let ts = k.threads in
    let first : Thread = record (thread k t) { hart = h } in
    let last : Thread = record (thread (with_hart k t h) t) { hart = now } in
    let once : Thread = record (thread k t) { hart = now } in
    let same : set ts t last ≡ set ts t once =
    ⊎_elim (λ (below : t < length ts). ap (λ (u : Thread). set ts t (record u { hart = now })) (get_or-set_same ts t first blank_thread below))
    (λ (past : length ts ≤ t). set_past ts t last past ∙ sym (set_past ts t once past)) (cases_lt t (length ts)) in
    ap (λ (us : List Thread). record k { threads = us }) (set-set ts t first last ∙ same)

-- steps whose burst completed, by how it ended
pub made_done : (p : Parts) (t m n : ℕ) (b : Burst) (end : Option Effect) → Ends m n b.done b.hart b.memory end → out_at end ≡ Done
    → made_by p t b end ≡ record { steps = b.done; parts = ran_on p t (hart_at end b.hart) b.memory }
made_done p t m n b None ends done = refl
made_done p t m n b (Some e) ends done = absurd (ends.2 done)

-- a burst that ended before as many instructions as were asked for
pub ends_before : (m n done : ℕ) (h : HartState) (g : Memory) (end : Option Effect) → Ends m n done h g end → out_at end ≢ Done → done < n
ends_before m n done h g None ends stops = absurd (stops refl)
ends_before m n done h g (Some e) ends stops = ends.0

-- whose burst ended at a call
pub made_calls : (p : Parts) (t : ℕ) (b : Burst) (end : Option Effect) → out_at end ≡ Call
    → made_by p t b end ≡ record { steps = b.done + 1; parts = after_call (ran_on p t (hart_at end b.hart) b.memory) t }
made_calls p t b None calls = cc
made_calls p t b (Some (Completes h)) calls = cc
made_calls p t b (Some (Stores a n value h)) calls = cc
made_calls p t b (Some (Calls h)) calls =
    ap (λ (k : Kernel). record { steps = b.done + 1; parts = after_call (record p { kernel = k; memory = b.memory }) t })
    (with_hart-twice p.kernel t b.hart h)
made_calls p t b (Some (Faults cause)) calls = cc

-- whose burst ended at a fault
pub made_faults : (p : Parts) (t : ℕ) (b : Burst) (end : Option Effect) (cause : Cause) → out_at end ≡ Fault cause
    → made_by p t b end ≡ record { steps = b.done + 1; parts = after_fault (ran_on p t (hart_at end b.hart) b.memory) t cause }
made_faults p t b None cause faults = cc
made_faults p t b (Some (Completes h)) cause faults = cc
made_faults p t b (Some (Stores a n value h)) cause faults = cc
made_faults p t b (Some (Calls h)) cause faults = cc
made_faults p t b (Some (Faults c)) cause faults =
    let same : c ≡ cause = cc in
    ap (λ (x : Cause). record { steps = b.done + 1; parts = after_fault (ran_on p t b.hart b.memory) t x }) same
