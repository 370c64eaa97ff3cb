-- An object is removed; and who waits for it is put in order.
use Rattle.std.proofs.Common.{◌≡◌, ◌≢◌, ℕ, ◌==◌, Bool, true, false, cond, List, [], ◌∷◌, ◌++◌, Option, None, Some, IsSome, find, refl, sym, ap, subst, append-nil, arith}
use Rattle.std.specs.Prelude.{nat_le}
use Rattle.std.proofs.lemmas.Bool.{eq-eqb, false≢true, false_from_ne_true, or_left, or_right}
use Rattle.std.proofs.lemmas.List.Elements.{All-nil, All-same}
use Rattle.tx_types.specs.declared.waits.End.TheVariants.{Deleted, Gone}
use Rattle.object_grants.specs.Laws.{MakeEmpty}
use Rattle.object_grants.specs.Slot.{is_in}
use Rattle.object_grants.specs.Table.{slot, after_make_empty}
use Rattle.object_grants.specs.declared.slot.SlotState.TheVariants.{Live}
use Rattle.region_guard.specs.Memory.{Memory}
use Rattle.suspend_lists.specs.Laws.{StandsWhereItWaits, ToFront}
use Rattle.suspend_lists.specs.ThreadList.{has}
use Rattle.suspend_lists.specs.Waits.{place_of, put_first, wait_of}
use Rattle.kernel_state.specs.Change.{Change, quiet}
use Rattle.kernel_state.specs.ContentLaws.{EmptiedKeepsServing, RemovedKeepsServing}
use Rattle.kernel_state.specs.Kernel.{has_thread, slot_emptied, thread}
use Rattle.kernel_state.specs.ObjectLaws.{AllEndedCallsWaits, AllEndedKeepsServing, AllEndedKeepsSound, AllEndedLeavesNone, AllEndedSparesThreads, EmptiedKeepsSound, EndsByCalls, IsEndOf, PrioritizedCallsWaits, PrioritizedChangesOrder, PrioritizedIsKept, PrioritizedKeepsServing, PrioritizedRaisesNone, RemovedCallsWaits, RemovedChangesOne, RemovedEndsThem, RemovedIsKept, RemovedKeepsMemory, RemovedKeepsSound, RemovedRaisesNone, RemovedSparesThreads}
use Rattle.kernel_state.specs.Objects.{all_ended, most_urgent, prioritized, put_ahead_of_all, removed, waiters_of, without_contents}
use Rattle.kernel_state.specs.Room.{RaisesCounts}
use Rattle.kernel_state.specs.Row.{DoneIsKept, IsCaller, RunningCalls}
use Rattle.kernel_state.specs.Serves.{Serves}
use Rattle.kernel_state.specs.Sound.{IsSound}
use Rattle.kernel_state.specs.WaitCalls.{EndsWithItsThread}
use Rattle.kernel_state.specs.WaitLaws.{FollowedCallsWaits, LeftCallsWaits, ToFrontKeepsServing, WaitEndRaisesNone}
use Rattle.kernel_state.specs.Waiting.{wait_ended}
use Rattle.kernel_state.specs.declared.kernel.Kernel.{Kernel}
use Rattle.kernel_state.specs.declared.thread.Thread.{Thread}
use Rattle.kernel_state.proofs.AllEnded.{all_ended_changes_threads, all_ended_ends_them, all_ended_raises_none, none_raised, only_ends_more, only_if_same, waiter_waits}
use Rattle.kernel_state.proofs.Sound.{thread_of}
use Rattle.kernel_state.proofs.States.{waits_if_some}

-- no end of a wait is Gone by a removal
deleted_not_gone : Deleted ≢ Gone
deleted_not_gone same = cc

-- the kernel after its waiters' waits ended, and what is left of it then
abbrev ended_first : Kernel → Memory → ℕ → Change
ended_first k g o = all_ended Deleted (waiters_of k o) k g

ended_first-objects : (k : Kernel) (g : Memory) (o : ℕ) → (ended_first k g o).kernel.objects ≡ k.objects
ended_first-objects k g o = ap (λ (j : Kernel). j.objects) (all_ended_changes_threads k g Deleted (waiters_of k o))

-- the laws on the end of all waits, and on the end of an object for which nobody waits
pub record Ends : Type 0 where
  pub serving : AllEndedKeepsServing
  pub sound : AllEndedKeepsSound
  pub none : AllEndedLeavesNone

pub removed_keeps_serving : Ends → EmptiedKeepsServing → RemovedKeepsServing
unfolding removed
removed_keeps_serving ends empties k g o serves below live no_thread =
    let c = ended_first k g o in
    let objects = ended_first-objects k g o in
    empties c.kernel c.memory o (ends.serving k g o Deleted serves deleted_not_gone) below
    (subst (λ slots. is_in Live (slot slots o) ≡ true) (sym objects) live) (subst (λ slots. has_thread (slot slots o) ≡ false) (sym objects) no_thread)
    (ends.none k g o Deleted serves.sound deleted_not_gone)

pub removed_keeps_sound : Ends → EmptiedKeepsSound → RemovedKeepsSound
unfolding removed
removed_keeps_sound ends empties k g o sound below live no_thread =
    let c = ended_first k g o in
    let objects = ended_first-objects k g o in
    empties c.kernel o (ends.sound k g o Deleted sound deleted_not_gone) below
    (subst (λ slots. is_in Live (slot slots o) ≡ true) (sym objects) live) (subst (λ slots. has_thread (slot slots o) ≡ false) (sym objects) no_thread)
    (ends.none k g o Deleted sound deleted_not_gone)

pub removed_changes_one : RemovedChangesOne
unfolding removed
removed_changes_one k g o = ap (λ j. slot_emptied (without_contents j o) o) (all_ended_changes_threads k g Deleted (waiters_of k o))

-- no byte changes as waits end as Deleted
deleted-memory : (k : Kernel) (g : Memory) (ts : List ℕ) → (all_ended Deleted ts k g).memory ≡ g
deleted-memory k g [] = refl
deleted-memory k g (t ∷ ts) = let c = wait_ended k g t Deleted [] in deleted-memory c.kernel c.memory ts

pub removed_keeps_memory : RemovedKeepsMemory
unfolding removed
removed_keeps_memory k g o = deleted-memory k g (waiters_of k o)

pub removed_ends_them : RemovedEndsThem
unfolding removed
removed_ends_them k g o =
    let c = ended_first k g o in
    let its = IsEndOf k (waiters_of k o) Deleted in
    All-same its (c.ends ++ []) c.ends (append-nil c.ends) (all_ended_ends_them k g Deleted (waiters_of k o))

pub removed_raises_none : WaitEndRaisesNone → RemovedRaisesNone
unfolding removed
removed_raises_none one k g o =
    let raised = all_ended_raises_none one k g Deleted (waiters_of k o) in
    record { begun = raised.begun; armings = raised.armings; ticks = raised.ticks }

pub removed_spares_threads : AllEndedSparesThreads → RemovedSparesThreads
unfolding removed
removed_spares_threads spares k g o sound =
    let spared = spares k g o Deleted sound deleted_not_gone in
    record { others = spared.others; modules = spared.modules; over = spared.over }

pub removed_calls_waits : AllEndedCallsWaits → LeftCallsWaits → FollowedCallsWaits → RemovedCallsWaits
unfolding removed
removed_calls_waits all left followed k g o sound =
    let c = ended_first k g o in
    let d = quiet (slot_emptied (without_contents c.kernel o) o) c.memory in
    let first = all k g o Deleted sound deleted_not_gone in
    let then = only_if_same c.kernel d.kernel refl (λ t. refl) in
    record {
      calls = followed k c d first.calls first.only_ends (left c.kernel d (record { waits = refl; wheel = refl; ends = refl })) then;
      only_ends = only_ends_more k c.kernel d.kernel first.only_ends then;
    }

-- a caller waits for nothing
caller_waits_not : StandsWhereItWaits → (k : Kernel) (by o : ℕ) → IsSound k → IsCaller k by → has by (waiters_of k o) ≡ false
caller_waits_not each k by o sound caller =
    false_from_ne_true (has by (waiters_of k o)) (λ there.
    let was = thread_of [] k by sound caller.live in
    let waits = waits_if_some (thread k by).state (wait_of k.waits by) (waiter_waits each k o by sound there) was.wait in
    let at_0 : nat_le 4 0 ≡ true = subst (λ n. nat_le 4 n ≡ true) caller.state waits in
    false≢true at_0)

pub removed_is_kept : StandsWhereItWaits → RunningCalls → DoneIsKept → RemovedSparesThreads → RemovedCallsWaits → RemovedRaisesNone → RemovedIsKept
removed_is_kept each calls done_is_kept spares calls_waits raises r k g by o serves runs used =
    let c = removed k g o in
    let raised = raises k g o in
    let slots : c.kernel.objects ≡ after_make_empty k.objects o = ap (λ (j : Kernel). j.objects) (removed_changes_one k g o) in
    done_is_kept r k g by c (removed_keeps_memory k g o)
    (λ caller. ap (λ (x : Thread). x.hart) ((spares k g o serves.sound).others by (caller_waits_not each k by o serves.sound caller)))
    (record {
      slots = record { call = Some (MakeEmpty o); slots = slots; may = (tt, used) };
      waits = λ sound caller. (calls_waits k g o sound).calls;
      counts = record { begun = omega (arith, raised.begun); armings = omega (arith, raised.armings); ticks = omega (arith, raised.ticks) };
    })

-- the most urgent waiter, if there is one, is a waiter
pub found_stands : (test : ℕ → Bool) (xs : List ℕ) (t : ℕ) → find test xs ≡ Some t → has t xs ≡ true
found_stands test [] t found = cc
found_stands test (x ∷ xs) t found = elim (test x) as (λ b. cond b (Some x) (find test xs) ≡ Some t → has t (x ∷ xs) ≡ true) [
  | true ↦ λ here. let same : x ≡ t = cc in or_left (t == x) (has t xs) (eq-eqb t x (sym same))
  | false ↦ λ there. or_right (t == x) (has t xs) (found_stands test xs t there)
] found

pub urgent_is_placed : StandsWhereItWaits → (k : Kernel) (o t : ℕ) → IsSound k → most_urgent k (waiters_of k o) ≡ Some t → place_of k.waits t ≡ Some o
urgent_is_placed each k o t sound is = (each k.waits o t sound.formed.waits).0 (found_stands _ (waiters_of k o) t is)

-- who waits for an object is put in order where somebody does
pub by_urgent : (k : Kernel) (o : ℕ) (P : Kernel → Type 0) → P k
    → ((t : ℕ) → most_urgent k (waiters_of k o) ≡ Some t → P (record k { waits = put_first k.waits t }))
    → P (prioritized k o)
unfolding prioritized
by_urgent k o P none some = by_first (most_urgent k (waiters_of k o)) refl where
  by_first : (x : Option ℕ) → most_urgent k (waiters_of k o) ≡ x → P (put_ahead_of_all k x)
  by_first None is = none
  by_first (Some t) is = some t is

pub prioritized_keeps_serving : StandsWhereItWaits → ToFrontKeepsServing → PrioritizedKeepsServing
prioritized_keeps_serving each to_front k g o serves =
    by_urgent k o (λ j. Serves j g) serves (λ t is. to_front k g t serves (subst IsSome (sym (urgent_is_placed each k o t serves.sound is)) refl))

pub prioritized_changes_order : PrioritizedChangesOrder
prioritized_changes_order k o = by_urgent k o (λ j. j ≡ record k { waits = j.waits }) refl (λ t is. refl)

pub prioritized_raises_none : PrioritizedRaisesNone
prioritized_raises_none k o =
    by_urgent k o (RaisesCounts 0 k) (none_raised k) (λ t is. record { begun = omega arith; armings = omega arith; ticks = omega arith })

pub prioritized_calls_waits : StandsWhereItWaits → LeftCallsWaits → PrioritizedCallsWaits
prioritized_calls_waits each left k g o sound =
    by_urgent k o (λ j. EndsByCalls k (quiet j g))
    (record { calls = left k (quiet k g) (record { waits = refl; wheel = refl; ends = refl }); only_ends = only_if_same k k refl (λ t. refl) })
    (λ t is. let now : Kernel = record k { waits = put_first k.waits t } in record {
      calls = record {
        calls = ToFront t ∷ [];
        waits = refl;
        may = (subst IsSome (sym (urgent_is_placed each k o t sound is)) refl, tt);
        ends = refl;
        gone = All-nil (EndsWithItsThread k now);
      };
      only_ends = record { numbers = λ u n here. here; over = λ u was. was };
    })

pub prioritized_is_kept : DoneIsKept → PrioritizedCallsWaits → PrioritizedIsKept
prioritized_is_kept done_is_kept calls_waits r k g by o =
    let now = prioritized k o in
    let raised = prioritized_raises_none k o in
    let same = prioritized_changes_order k o in
    done_is_kept r k g by (quiet now g) refl
    (λ caller. ap (λ (j : Kernel). (thread j by).hart) same)
    (record {
      slots = record { call = None; slots = ap (λ (j : Kernel). j.objects) same; may = tt };
      waits = λ sound caller. (calls_waits k g o sound).calls;
      counts = record { begun = omega (arith, raised.begun); armings = omega (arith, raised.armings); ticks = omega (arith, raised.ticks) };
    })
