-- Who runs is ready, and who is ready is a thread.
use Rattle.std.proofs.Common.{◌≡◌, ℕ, ◌<◌, ◌==◌, Bool, true, false, cond, List, [], ◌∷◌, Some, find, refl, sym, ◌∙◌, subst, All, ⊎_elim}
use Rattle.std.proofs.lemmas.Bool.{eq-eqb, eqb-true, false≢true, or_cases, or_left, or_right}
use Rattle.std.proofs.lemmas.List.Elements.{All-head, All-tail}
use Rattle.ready_maps.specs.Kept.{RunsRightly}
use Rattle.ready_maps.specs.Sched.{has, is_ready, pr}
use Rattle.kernel_state.specs.Kernel.{is_thread, thread}
use Rattle.kernel_state.specs.Laws.{RunningIsReady, ReadyIsThread, WaiterHasWait}
use Rattle.kernel_state.specs.Sound.{IsEntry}
use Rattle.kernel_state.specs.declared.kernel.Kernel.{Kernel}
use Rattle.suspend_lists.specs.Waits.{wait_of}
use Rattle.kernel_state.proofs.Sound.{thread_of}
use Rattle.kernel_state.proofs.States.{some_if_waits}

-- what is found in a list stands there
has-found : (test : ℕ → Bool) (xs : List ℕ) (t : ℕ) → find test xs ≡ Some t → has t xs ≡ true
has-found test [] t found = cc
has-found test (x ∷ xs) t found = elim (test x) as (λ b. cond b (Some x) (find test xs) ≡ Some t → has t (x ∷ xs) ≡ true) [
  | true ↦ λ here. let same : x ≡ t = cc in or_left (x == t) (has t xs) (eq-eqb x t same)
  | false ↦ λ there. or_right (x == t) (has t xs) (has-found test xs t there)
] found

pub running_is_ready : RunningIsReady
running_is_ready k t sound runs =
    let rightly = subst (RunsRightly k.ready) runs sound.formed.scheduler.rightly in
    has-found (λ u. pr k.ready u == pr k.ready t) k.ready.order t rightly.is_first

by_entry : (k : Kernel) (t : ℕ) (b : Bool) → IsEntry k t b → is_ready k.ready t ≡ true → b ≡ true
by_entry k t true sound ready = refl
by_entry k t false sound ready = absurd (false≢true (sym sound.0 ∙ ready))

-- what holds of each thread in a list holds of one that stands there
All-has : (P : ℕ → Type 0) (xs : List ℕ) (t : ℕ) → All P xs → has t xs ≡ true → P t
All-has P [] t all stands = absurd (false≢true stands)
All-has P (x ∷ xs) t all stands =
    ⊎_elim (λ here. subst P (eqb-true x t here) (All-head P x xs all)) (λ there. All-has P xs t (All-tail P x xs all) there)
    (or_cases (x == t) (has t xs) stands)

pub ready_is_thread : ReadyIsThread
ready_is_thread k t sound ready =
    let below = All-has (λ u. u < 256) k.ready.order t sound.formed.scheduler.laid_out.in_range ready in
    by_entry k t (is_thread k t) (sound.formed.entries t below) ready

pub waiter_has_wait : WaiterHasWait
waiter_has_wait k t sound live waits = some_if_waits (thread k t).state (wait_of k.waits t) waits (thread_of [] k t sound live).wait
