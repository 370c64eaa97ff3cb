-- A change of the kernel keeps the registers of the caller.
use Rattle.std.proofs.Common.{◌≡◌, ◌≢◌, ℕ, ◌<◌, ◌≤◌, ◌==◌, ◌||◌, Bool, true, false, not, nat_le, List, [], length, Option, None, Some, refl, sym, ap, ◌∙◌}
use Rattle.std.proofs.Common.{subst, ⊎_elim}
use Rattle.std.specs.List.{slice_index_or}
use Rattle.std.proofs.lemmas.Bool.{and_parts, cases_eq, cases_lt, cond_both, eqb-true, false≢true, not-false}
use Rattle.std.proofs.lemmas.List.{get_or-set_same, get_or-set_other, set_past}
use Rattle.tx_types.specs.Reference.{slot_of}
use Rattle.tx_types.specs.declared.kind.Kind.TheVariants.{Thread as ThreadKind}
use Rattle.tx_types.specs.declared.state.State.{State}
use Rattle.tx_types.specs.declared.state.State.TheVariants.{Ready, Suspended}
use Rattle.object_grants.specs.Slot.{is_in, is_kind, is_own_empty, is_empty_for, owns, slot_state_number}
use Rattle.object_grants.specs.Table.{names, named as names_slot, slot}
use Rattle.object_grants.specs.declared.slot.SlotState.TheVariants.{Empty, Live}
use Rattle.region_guard.specs.Memory.{Memory}
use Rattle.tx_types.specs.Code.{wait_aborted}
use Rattle.tx_types.specs.declared.waits.End.TheVariants.{Aborted}
use Rattle.kernel_state.specs.Change.{Change, quiet}
use Rattle.kernel_state.specs.Readying.{made_ready}
use Rattle.kernel_state.specs.Registers.{with_a0}
use Rattle.kernel_state.specs.Waiting.{left_wait, suspended_at_last, wait_ended}
use Rattle.kernel_state.specs.Kernel.{thread, with_thread, module_of, placed}
use Rattle.kernel_state.specs.Row.{KeepsCaller}
use Rattle.kernel_state.specs.Outcome.{refused}
use Rattle.kernel_state.specs.Tests.{reserved}
use Rattle.kernel_state.specs.Thread.{blank_thread, is_over, is_state, is_waiting}
use Rattle.kernel_state.specs.ThreadChanges.{started, suspended, ended, reset, with_fresh}
use Rattle.kernel_state.specs.WaitLaws.{EndChangesOne, with_waits}
use Rattle.kernel_state.specs.declared.kernel.Kernel.{Kernel}
use Rattle.kernel_state.specs.declared.thread.Thread.{Thread}
use Rattle.thread_calls.specs.Create.{created, spec_of}
use Rattle.thread_calls.specs.declared.create.ThreadBlock.{ThreadBlock}

-- a thread changes, and keeps its registers
pub hart_kept : (k : Kernel) (by t : ℕ) (now : Thread) → now.hart ≡ (thread k t).hart → (thread (with_thread k t now) by).hart ≡ (thread k by).hart
hart_kept k by t now same = ⊎_elim
    (λ (is_t : by ≡ t). subst (λ n. (thread (with_thread k t now) n).hart ≡ (thread k n).hart) (sym is_t)
    (⊎_elim
    (λ (within : t < length k.threads). ap (λ (x : Thread). x.hart) (get_or-set_same k.threads t now blank_thread within) ∙ same)
    (λ (past : length k.threads ≤ t). ap (λ ts. (slice_index_or ts t blank_thread).hart) (set_past k.threads t now past))
    (cases_lt t (length k.threads))))
    (λ (other : by ≢ t). ap (λ (x : Thread). x.hart) (get_or-set_other k.threads t by now blank_thread other))
    (cases_eq by t)

-- another thread changes
pub other_kept : (k : Kernel) (by t : ℕ) (now : Thread) → by ≢ t → (thread (with_thread k t now) by).hart ≡ (thread k by).hart
other_kept k by t now other = ap (λ (x : Thread). x.hart) (get_or-set_other k.threads t by now blank_thread other)

pub started_kept : (k : Kernel) (g : Memory) (by t : ℕ) → (thread (started k g t).kernel by).hart ≡ (thread k by).hart
started_kept k g by t = hart_kept (with_fresh k t false) by t _ refl ∙ hart_kept k by t (record (thread k t) { fresh = false }) refl

pub suspended_kept : (k : Kernel) (g : Memory) (by t : ℕ) → (thread (suspended k g t).kernel by).hart ≡ (thread k by).hart
suspended_kept k g by t =
    cond_both (is_state (thread k t).state Ready) _ _ (λ (j : Kernel). (thread j by).hart ≡ (thread k by).hart)
    (λ ready. hart_kept k by t (record (thread k t) { state = Suspended }) refl)
    (λ not_ready. cond_both (is_waiting (thread k t).state) _ _ (λ (j : Kernel). (thread j by).hart ≡ (thread k by).hart)
    (λ waits. hart_kept k by t (record (thread k t) { held = true }) refl)
    (λ rests. refl))

pub ended_kept : EndChangesOne → (k : Kernel) (g : Memory) (by t : ℕ) (state : State) → (thread (ended k g t state).kernel by).hart ≡ (thread k by).hart
ended_kept one k g by t state =
    let now = (ended k g t state).kernel in
    subst (λ (j : Kernel). (thread j by).hart ≡ (thread k by).hart) (sym (one k g t state))
    (cond_both (is_over (thread k t).state) k _ (λ (j : Kernel). (thread (with_waits j now.waits now.wheel) by).hart ≡ (thread k by).hart)
    (λ over. refl)
    (λ runs. hart_kept k by t (record (thread k t) { state = state; held = false }) refl))

-- what a refusal by a test lets pass
pub passed : (b : Bool) (c : ℕ) → refused b c ≡ None → b ≡ false
passed b c free = cond_both b (Some c) None (λ (o : Option ℕ). o ≡ None → b ≡ false) (λ yes same. cc) (λ no same. no) free

-- a thread that is over isn't the caller
pub reset_kept : (k : Kernel) (g : Memory) (by t c : ℕ) → refused (not (is_over (thread k t).state)) c ≡ None → KeepsCaller k by (reset k g t).kernel
reset_kept k g by t c free caller =
    let over : is_over (thread k t).state ≡ true = not-false (is_over (thread k t).state) (passed (not (is_over (thread k t).state)) c free) in
    other_kept k by t (record (thread k t) { hart = (thread k t).opening; state = Suspended; left = (thread k t).slice; fresh = true })
    (λ (same : by ≡ t). false≢true (sym (ap (λ n. (n == 1) || (n == 2)) caller.state) ∙ subst (λ n. is_over (thread k n).state ≡ true) (sym same) over))

-- what a reserved slot is: Empty, so it has no thread yet
reserved_is_empty : (k : Kernel) (by r o : ℕ) → reserved k by r ThreadKind ≡ Some o → is_in Empty (slot k.objects o) ≡ true
reserved_is_empty k by r o found =
    let test = is_empty_for (module_of k by) ThreadKind in
    cond_both (names_slot k.objects r test) (Some (slot_of r)) None (λ (x : Option ℕ). x ≡ Some o → is_in Empty (slot k.objects o) ≡ true)
    (λ yes same.
    let is_o : slot_of r ≡ o = cc in
    let passes = (and_parts (names k.objects r) (test (slot k.objects (slot_of r))) yes).1 in
    let own = (and_parts (is_own_empty (module_of k by) (slot k.objects (slot_of r))) (is_kind ThreadKind (slot k.objects (slot_of r))) passes).0 in
    subst (λ n. is_in Empty (slot k.objects n) ≡ true) is_o
    (and_parts (is_in Empty (slot k.objects (slot_of r))) (owns (module_of k by) (slot k.objects (slot_of r))) own).0)
    (λ no same. cc)
    found

-- a thread that is created isn't the caller, and no byte changes
pub created_kept : (k : Kernel) (g : Memory) (by r o : ℕ) (name : List ℕ) (b : ThreadBlock) → reserved k by r ThreadKind ≡ Some o
    → KeepsCaller k by (created k g by o name b).kernel
unfolding created
created_kept k g by r o name b found caller =
    let empty = eqb-true (slot_state_number (slot k.objects o).state) 1 (reserved_is_empty k by r o found) in
    let live =
    eqb-true (slot_state_number (slot k.objects by).state) 2
    (and_parts (is_in Live (slot k.objects by)) (is_kind ThreadKind (slot k.objects by)) caller.live).0 in
    let other : by ≢ o = λ same. false≢true (ap (λ n. n == 1) (sym live ∙ (ap (λ n. slot_state_number (slot k.objects n).state) same ∙ empty))) in
    let now = placed k o name (spec_of k by b) in
    let made = other_kept k by o _ other in
    cond_both (b.auto == 1) (started now g o) (quiet now g) (λ (c : Change). (thread c.kernel by).hart ≡ (thread k by).hart)
    (λ starts. started_kept now g by o ∙ made) (λ rests. made)

pub created_memory : (k : Kernel) (g : Memory) (by o : ℕ) (name : List ℕ) (b : ThreadBlock) → (created k g by o name b).memory ≡ g
unfolding created
created_memory k g by o name b =
    let now = placed k o name (spec_of k by b) in
    cond_both (b.auto == 1) (started now g o) (quiet now g) (λ (c : Change). c.memory ≡ g) (λ starts. refl) (λ rests. refl)

-- a thread whose wait is ended isn't the caller
pub aborted_kept : (k : Kernel) (g : Memory) (by t c : ℕ) → refused (not (is_waiting (thread k t).state)) c ≡ None
    → KeepsCaller k by (wait_ended k g t Aborted []).kernel
aborted_kept k g by t c free caller =
    let waits : is_waiting (thread k t).state ≡ true = not-false (is_waiting (thread k t).state) (passed (not (is_waiting (thread k t).state)) c free) in
    let other : by ≢ t = λ same. false≢true (sym (ap (λ n. nat_le 4 n) caller.state) ∙ subst (λ n. is_waiting (thread k n).state ≡ true) (sym same) waits) in
    let answered = with_a0 (left_wait k t Aborted) t wait_aborted in
    let left : (thread answered by).hart ≡ (thread k by).hart = other_kept k by t _ other in
    cond_both (thread answered t).held (suspended_at_last answered t) (made_ready answered t) (λ (j : Kernel). (thread j by).hart ≡ (thread k by).hart)
    (λ held. other_kept answered by t _ other ∙ left) (λ free. other_kept answered by t _ other ∙ left)
