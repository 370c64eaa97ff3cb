-- A halt leaves used slots with the modules that are still started.
use Rattle.std.proofs.Common.{◌≡◌, ◌≢◌, ℕ, zero, suc, ◌==◌, ◌&&◌, true, false, not, List, refl, sym, ap, ◌∙◌, subst, ⊎_elim}
use Rattle.std.proofs.lemmas.Bool.{and_parts, cond_both, false≢true}
use Rattle.std.proofs.lemmas.Bool.Decides.{eqb_tells}
use Rattle.std.proofs.lemmas.List.{get_or-set_other}
use Rattle.std.proofs.lemmas.List.Elements.{All-from_get_or, All-get_or}
use Rattle.tx_types.specs.declared.state.State.TheVariants.{Terminated}
use Rattle.kernel_state.specs.Kernel.{is_thread, module_of, removed_thread}
use Rattle.kernel_state.specs.ObjectLaws.{RemovedChangesOne}
use Rattle.kernel_state.specs.Objects.{removed}
use Rattle.kernel_state.specs.Sound.{IsSound}
use Rattle.kernel_state.specs.declared.kernel.Kernel.{Kernel}
use Rattle.region_guard.specs.Memory.{Memory}
use Rattle.kernel_state.specs.Change.{Change, quiet}
use Rattle.module_manager.specs.Halt.{clearing, each_below, ending, for_each_slot, halted, one_more, slots_cleared, then_freed, threads_ended, ungranting}
use Rattle.module_manager.specs.Laws.{HaltEndsGrants, HaltEndsSlots}
use Rattle.module_manager.specs.Modules.{module_at, with_state}
use Rattle.module_manager.specs.declared.modules.Module.{Module}
use Rattle.module_manager.specs.declared.modules.ModuleState.{ModuleState}
use Rattle.object_grants.specs.Slot.{free_slot, is_granted, is_in, owns}
use Rattle.object_grants.specs.Table.{slot}
use Rattle.object_grants.specs.declared.slot.Slot.{Slot}
use Rattle.object_grants.specs.declared.slot.SlotState.TheVariants.{Free, Live}
use Rattle.board_core.specs.Owners.{AreOwned, IsOwned, IsStarted}
use Rattle.board_core.proofs.OwnedCalls.{Owned, OwnedChange, ended_owned}
use Rattle.board_core.proofs.OwnedSlots.{emptied_owned, freed_owned, revoked_owned}

-- what each change keeps, all of them keep
kept_below : (ms : List Module) (n : ℕ) (change : Kernel → Memory → ℕ → Change)
    → ((k : Kernel) (g : Memory) (i : ℕ) → Owned ms k → Owned ms (change k g i).kernel) → (c : Change)
    → Owned ms c.kernel → Owned ms (each_below n (one_more change) c).kernel
unfolding each_below
kept_below ms zero change keeps c before = before
kept_below ms (suc n) change keeps c before = keeps _ _ n (kept_below ms n change keeps c before)

each_slot_owned : (ms : List Module) (change : Kernel → Memory → ℕ → Change)
    → ((k : Kernel) (g : Memory) (i : ℕ) → Owned ms k → Owned ms (change k g i).kernel) → (k : Kernel) (g : Memory)
    → Owned ms k → Owned ms (for_each_slot change k g).kernel
each_slot_owned ms change keeps k g before = kept_below ms 256 change keeps (quiet k g) before

ending_owned : (ms : List Module) (m : ℕ) (k : Kernel) (g : Memory) (t : ℕ) → Owned ms k → OwnedChange ms (ending m k g t)
ending_owned ms m k g t before =
    cond_both (is_thread k t && (module_of k t == m)) _ _ (OwnedChange ms) (λ _. ended_owned ms k g t Terminated before) (λ _. before)

owned_used : (m : ℕ) (s : Slot) → owns m s ≡ true → is_in Free s ≡ false
owned_used m s own =
    let used = (and_parts (not (is_in Free s)) (s.owner == m) own).0 in
    elim (is_in Free s) as (λ b. not b ≡ true → b ≡ false) [ true ↦ λ no. cc | false ↦ λ yes. refl ] used

clearing_owned : RemovedChangesOne → (ms : List Module) (m : ℕ) (k : Kernel) (g : Memory) (o : ℕ) → Owned ms k → OwnedChange ms (clearing m k g o)
clearing_owned one ms m k g o before =
    cond_both (owns m (slot k.objects o)) _ (quiet k g) (OwnedChange ms)
    (λ own.
    let out = emptied_owned ms k.objects o before (owned_used m (slot k.objects o) own) in
    cond_both (is_thread k o) (quiet (removed_thread k o) g) _ (λ (c : Change). OwnedChange ms (then_freed c o))
    (λ _. freed_owned ms (removed_thread k o).objects o out)
    (λ _. cond_both (is_in Live (slot k.objects o)) (removed k g o) (quiet k g) (λ (c : Change). OwnedChange ms (then_freed c o))
    (λ _. freed_owned ms (removed k g o).kernel.objects o (subst (AreOwned ms) (sym (ap (λ (j : Kernel). j.objects) (one k g o))) out))
    (λ _. freed_owned ms k.objects o before)))
    (λ _. before)

halted_owned : RemovedChangesOne → (ms : List Module) (k : Kernel) (g : Memory) (m : ℕ) → Owned ms k → OwnedChange ms (halted k g m)
halted_owned one ms k g m before =
    let ended = threads_ended k g m in
    let cleared = slots_cleared ended.kernel ended.memory m in
    each_slot_owned ms (ungranting m) (λ q h o. revoked_owned ms q.objects m o) cleared.kernel cleared.memory
    (each_slot_owned ms (clearing m) (clearing_owned one ms m) ended.kernel ended.memory (each_slot_owned ms (ending m) (ending_owned ms m) k g before))

-- another module's state doesn't matter
started_beside : (ms : List Module) (m n : ℕ) (state : ModuleState) → n ≢ m → IsStarted ms n → IsStarted (with_state ms m state) n
started_beside ms m n state other started = ap (λ (r : Module). r.state) (get_or-set_other ms m n (record (module_at ms m) { state = state }) _ other) ∙ started

eqb_same : (m : ℕ) → (m == m) ≡ true
eqb_same m = ⊎_elim (λ same. same.0) (λ other. absurd (other.1 refl)) (eqb_tells m m)

-- no slot is the module's any more, so that its state doesn't matter either
pub fault_owned : RemovedChangesOne → HaltEndsSlots → HaltEndsGrants → (ms : List Module) (k : Kernel) (g : Memory) (m : ℕ) (state : ModuleState) → IsSound k
    → Owned ms k
    → AreOwned (with_state ms m state) (halted k g m).kernel.objects
fault_owned one no_slots no_grants ms k g m state sound before =
    let slots = (halted k g m).kernel.objects in
    All-from_get_or (IsOwned (with_state ms m state)) slots (free_slot 0) (λ o below.
    let s = slot slots o in
    let own = All-get_or (IsOwned ms) slots o (free_slot 0) below (halted_owned one ms k g m before) in
    record {
      owner = λ used.
          started_beside ms m s.owner state
          (λ same. false≢true (sym (no_slots k g m o sound) ∙ (ap (λ b. not b && (s.owner == m)) used ∙ ap (λ n. n == m) same ∙ eqb_same m))) (own.owner used);
      grants = λ j granted.
          started_beside ms m j state
          (λ same. false≢true (sym (no_grants k g m o sound) ∙ subst (λ i. is_granted i s ≡ true) same granted)) (own.grants j granted);
    })
