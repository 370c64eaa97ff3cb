-- Where a result was promised it may be stored still, after each change that leaves the regions of memory.
use Rattle.std.proofs.Common.{◌≡◌, ℕ, ◌+◌, ◌*◌, ◌<◌, ◌==◌, ◌||◌, List, [], ◌∷◌, length, Option, None, Some, IfSome, refl, sym, ap, ◌∙◌, subst, ⊎_elim}
use Rattle.std.specs.List.{list_any, slice_index_or}
use Rattle.std.specs.Option.{option_map}
use Rattle.std.proofs.lemmas.Bool.{cases_eq, cases_lt}
use Rattle.std.proofs.lemmas.List.{get_or-set_same, get_or-set_other, set_past}
use Rattle.std.proofs.lemmas.Option.{none-some}
use Rattle.tx_types.specs.declared.waits.End.{End}
use Rattle.call_arguments.specs.Words.{with_word, with_words}
use Rattle.object_grants.specs.Table.{slot}
use Rattle.region_guard.specs.Memory.{Memory}
use Rattle.region_guard.specs.Region.{lets}
use Rattle.region_guard.specs.declared.region.Access.TheVariants.{Store}
use Rattle.region_guard.specs.declared.region.Region.{Region}
use Rattle.suspend_lists.specs.Waits.{WaitTable, ended as ended_wait, wait_of}
use Rattle.suspend_lists.specs.declared.wait.Pending.{Pending}
use Rattle.suspend_lists.specs.declared.wait.Wait.{Wait}
use Rattle.kernel_state.specs.Contents.{ArePromised, IsPlace, IsPromised, result_words}
use Rattle.kernel_state.specs.WaitLaws.{IsWaitLeft, PromisesStay}
use Rattle.kernel_state.specs.Waiting.{answer_of, left_wait, result_of, wait_ended, wanted_at, with_result}
use Rattle.kernel_state.specs.declared.kernel.Kernel.{Kernel}
use Rattle.kernel_state.proofs.Ends.{by_answer, wait_ended-waits}

-- the results of a kernel's waits may be stored
abbrev pub AreKept : Kernel → Memory → Type 0
AreKept k g = ArePromised g k.objects k.queues k.waits

-- regions alone say where a module may store
place_stays : (g h : Memory) (m n : ℕ) (o : Option ℕ) → h.regions ≡ g.regions → IfSome o (IsPlace g m n) → IfSome o (IsPlace h m n)
place_stays g h m n None same place = tt
place_stays g h m n (Some to) same place = record {
  some = place.some;
  aligned = place.aligned;
  allowed = ap (λ (rs : List Region). (4 * n == 0) || list_any (lets m Store to (4 * n)) rs) same ∙ place.allowed;
}

-- where no region changes, each wait left was there before, its thread's slot has the same owner, and a result is of as many words
pub what_is_promised_stays : PromisesStay
what_is_promised_stays k now g h promised same left t = by (wait_of now.waits t) (left t) where
  by : (o : Option Wait) → ((w : Wait) → o ≡ Some w → IsWaitLeft k now t w) → IfSome o (IsPromised h (slot now.objects t).owner now.queues)
  by None is_left = tt
  by (Some w) is_left =
      let was = is_left w refl in
      let before = subst (λ o. IfSome o (IsPromised g (slot k.objects t).owner k.queues)) was.is (promised t) in
      let after = place_stays g h (slot k.objects t).owner (result_words k.queues w.on) (wanted_at w.asks) same before in
      subst (λ m. IfSome (wanted_at w.asks) (IsPlace h m (result_words now.queues w.on))) (sym was.owner)
      (subst (λ n. IfSome (wanted_at w.asks) (IsPlace h (slot k.objects t).owner n)) (sym was.words) after)

-- so it is where slots and queues stay
pub fewer_waits : (k now : Kernel) (g h : Memory) → AreKept k g → h.regions ≡ g.regions → now.objects ≡ k.objects → now.queues ≡ k.queues
    → ((t : ℕ) (w : Wait) → wait_of now.waits t ≡ Some w → wait_of k.waits t ≡ Some w) → AreKept now h
fewer_waits k now g h promised same objects queues left =
    what_is_promised_stays k now g h promised same (λ t w is. record {
      is = left t w is;
      owner = ap (λ slots. (slot slots t).owner) objects;
      words = ap (λ table. result_words table w.on) queues;
    })

-- words that are written leave the regions
pub written-regions : (g : Memory) (x : ℕ) (ws : List ℕ) → (with_words g x ws).regions ≡ g.regions
written-regions g x [] = refl
written-regions g x (w ∷ ws) = written-regions (with_word g x w) (x + 4) ws

pub result-regions : (g : Memory) (to : Option ℕ) (value : List ℕ) → (with_result g to value).regions ≡ g.regions
result-regions g None value = refl
result-regions g (Some x) value = written-regions g x value

-- a wait that is pending after the end of one was so before
pub left_of_end : (w : WaitTable) (t u : ℕ) (e : End) (x : Wait) → wait_of (ended_wait w t e) u ≡ Some x → wait_of w u ≡ Some x
left_of_end w t u e x is =
    ⊎_elim (λ (same : u ≡ t). ⊎_elim
    (λ below. absurd (none-some x (sym (none_there same below) ∙ is)))
    (λ past. sym (ap (λ ps. option_map (λ (p : Pending). p.wait) (slice_index_or ps u None)) (set_past w.waits t None past)) ∙ is)
    (cases_lt t (length w.waits)))
    (λ other. sym (ap (option_map (λ (p : Pending). p.wait)) (get_or-set_other w.waits t u None None other)) ∙ is) (cases_eq u t) where
      none_there : u ≡ t → t < length w.waits → wait_of (ended_wait w t e) u ≡ None
      none_there same below = ap (wait_of (ended_wait w t e)) same ∙ ap (option_map (λ (p : Pending). p.wait)) (get_or-set_same w.waits t None None below)

-- the end of a wait leaves the others' promises
pub wait_end_keeps_promises : (k : Kernel) (g : Memory) (t : ℕ) (e : End) (value : List ℕ) → AreKept k g
    → AreKept (wait_ended k g t e value).kernel (wait_ended k g t e value).memory
wait_end_keeps_promises k g t e value promised =
    let answer = answer_of (wait_of k.waits t) e in
    let now = (wait_ended k g t e value).kernel in
    fewer_waits k now g (wait_ended k g t e value).memory promised (result-regions g (result_of (wait_of k.waits t) e) value)
    (by_answer (left_wait k t e) t e answer (λ j. j.objects) (λ _. refl) (λ _. refl) (λ _. refl))
    (by_answer (left_wait k t e) t e answer (λ j. j.queues) (λ _. refl) (λ _. refl) (λ _. refl))
    (λ u x is. left_of_end k.waits t u e x (sym (ap (λ w. wait_of w u) (wait_ended-waits k g t e value)) ∙ is))
