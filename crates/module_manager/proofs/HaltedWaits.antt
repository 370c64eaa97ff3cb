-- A halt ends waits by calls of their table, and begins none.
use Rattle.std.proofs.Common.{◌≡◌, ℕ, ◌==◌, ◌&&◌, List, ◌++◌, refl, sym, ap, ◌∙◌, inr, arith}
use Rattle.std.proofs.lemmas.Bool.{and_parts, cond_both}
use Rattle.tx_types.specs.End.{WaitEnd}
use Rattle.tx_types.specs.declared.state.State.TheVariants.{Terminated}
use Rattle.region_guard.specs.Memory.{Memory}
use Rattle.soft_timers.specs.Timers.{TimerTable}
use Rattle.suspend_lists.specs.Waits.{WaitTable, number_of}
use Rattle.kernel_state.specs.Change.{Change, quiet}
use Rattle.kernel_state.specs.Kernel.{thread, is_thread, module_of, removed_thread}
use Rattle.kernel_state.specs.ObjectLaws.{RemovedCallsWaits, RemovedRaisesNone}
use Rattle.kernel_state.specs.Objects.{removed}
use Rattle.kernel_state.specs.Room.{RaisesCounts}
use Rattle.kernel_state.specs.Sound.{IsSound}
use Rattle.kernel_state.specs.Thread.{is_over}
use Rattle.kernel_state.specs.ThreadChanges.{ended}
use Rattle.kernel_state.specs.ThreadLaws.{EndKeepsSound}
use Rattle.kernel_state.specs.WaitCalls.{CallsWaits, LeavesWaits, OnlyEnds}
use Rattle.kernel_state.specs.WaitLaws.{EndCallsWaits, EndOnlyEnds, EndRaisesNone, FollowedCallsWaits, LeftCallsWaits}
use Rattle.kernel_state.specs.declared.kernel.Kernel.{Kernel}
use Rattle.kernel_state.specs.declared.thread.Thread.{Thread}
use Rattle.module_manager.specs.Halt.{AreOver, clearing, ending, for_each_slot, freed, one_more, slots_cleared, then_freed, threads_ended, ties_ended, ungranting}
use Rattle.module_manager.specs.Laws.{HaltCallsWaits, HaltRaisesNone}
use Rattle.module_manager.proofs.Clearing.{Removes, by_clearing, clearing-over, clearing-sound, own_below}
use Rattle.module_manager.proofs.Ending.{Ends, threads_ended-sound-over}
use Rattle.module_manager.proofs.Folds.{each_below_keeps, for_each_slot_keeps}
use Rattle.module_manager.proofs.Ungranting.{ties_ended-is, ties_ended-thread}

-- the laws of the layer below on the end of a thread, and on changes of waits
pub record WaitLaws : Type 0 where
  pub sound : EndKeepsSound
  pub calls : EndCallsWaits
  pub only_ends : EndOnlyEnds
  pub left : LeftCallsWaits
  pub followed : FollowedCallsWaits
  pub removed_calls : RemovedCallsWaits
  pub ends : Ends
  pub removes : Removes

-- changes that leave waits and timeouts, one after another
leaves_more : (k : Kernel) (c d : Change) → LeavesWaits k c → LeavesWaits c.kernel d → LeavesWaits k (record d { ends = c.ends ++ d.ends })
leaves_more k c d one more = record {
  waits = more.waits ∙ one.waits;
  wheel = more.wheel ∙ one.wheel;
  ends = ap (λ (xs : List WaitEnd). xs ++ d.ends) one.ends ∙ more.ends;
}

none_leaves : (k : Kernel) (g : Memory) → LeavesWaits k (quiet k g)
none_leaves k g = record { waits = refl; wheel = refl; ends = refl }

for_each_slot_leaves : (change : Kernel → Memory → ℕ → Change) → ((k : Kernel) (g : Memory) (i : ℕ) → LeavesWaits k (change k g i)) → (k : Kernel) (g : Memory)
    → LeavesWaits k (for_each_slot change k g)
for_each_slot_leaves change step k g =
    each_below_keeps (λ i (c : Change). LeavesWaits k c) (one_more change) 256
    (λ i c below left. leaves_more k c (change c.kernel c.memory i) left (step c.kernel c.memory i)) (quiet k g) (none_leaves k g)

ungranting-leaves : (m : ℕ) (k : Kernel) (g : Memory) (o : ℕ) → LeavesWaits k (ungranting m k g o)
ungranting-leaves m k g o = record { waits = refl; wheel = refl; ends = refl }

-- a kernel whose waits and threads are the same
only_if_same : (k now : Kernel) → now.waits ≡ k.waits → ((t : ℕ) → thread now t ≡ thread k t) → OnlyEnds k now
only_if_same k now waits threads = record {
  numbers = λ t n is. sym (ap (λ (w : WaitTable). number_of w t) waits) ∙ is;
  over = λ t was. ap (λ (x : Thread). is_over x.state) (threads t) ∙ was;
}

-- what each thread's end keeps, for all that ended yet
record IsOnTheWay (k : Kernel) (c : Change) : Type 0 where
  pub sound : IsSound c.kernel
  pub calls : CallsWaits k c
  pub only_ends : OnlyEnds k c.kernel

ending-on_the_way : WaitLaws → (m : ℕ) (k : Kernel) (g : Memory) (t : ℕ) → IsSound k → IsOnTheWay k (ending m k g t)
ending-on_the_way laws m k g t sound =
    cond_both (is_thread k t && (module_of k t == m)) (ended k g t Terminated) (quiet k g) (IsOnTheWay k)
    (λ own. let live = (and_parts (is_thread k t) (module_of k t == m) own).0 in record {
      sound = laws.sound k g t Terminated sound live (inr refl);
      calls = laws.calls k g t Terminated sound live (inr refl);
      only_ends = laws.only_ends k g t Terminated (inr refl);
    })
    (λ _. record { sound = sound; calls = laws.left k (quiet k g) (none_leaves k g); only_ends = only_if_same k k refl (λ t. refl) })

one_more_on_the_way : WaitLaws → (k : Kernel) (c d : Change) → IsOnTheWay k c → IsOnTheWay c.kernel d → IsOnTheWay k (record d { ends = c.ends ++ d.ends })
one_more_on_the_way laws k c d before more = record {
  sound = more.sound;
  calls = laws.followed k c d before.calls before.only_ends more.calls more.only_ends;
  only_ends = record {
    numbers = λ t n is. before.only_ends.numbers t n (more.only_ends.numbers t n is);
    over = λ t was. more.only_ends.over t (before.only_ends.over t was);
  };
}

threads_ended-on_the_way : WaitLaws → (m : ℕ) (k : Kernel) (g : Memory) → IsSound k → IsOnTheWay k (threads_ended k g m)
threads_ended-on_the_way laws m k g sound =
    each_below_keeps (λ i (c : Change). IsOnTheWay k c) (one_more (ending m)) 256
    (λ i c below before. one_more_on_the_way laws k c (ending m c.kernel c.memory i) before (ending-on_the_way laws m c.kernel c.memory i before.sound))
    (quiet k g)
    (record { sound = sound; calls = laws.left k (quiet k g) (none_leaves k g); only_ends = only_if_same k k refl (λ t. refl) })

-- a change that leaves waits, timeouts and threads is on the way too
left_on_the_way : WaitLaws → (k : Kernel) (c : Change) → IsSound c.kernel → LeavesWaits k c → ((t : ℕ) → thread c.kernel t ≡ thread k t) → IsOnTheWay k c
left_on_the_way laws k c sound left threads = record {
  sound = sound;
  calls = laws.left k c left;
  only_ends = only_if_same k c.kernel left.waits threads;
}

clearing-on_the_way : WaitLaws → (m : ℕ) (k : Kernel) (g : Memory) (o : ℕ) → IsSound k → AreOver k m → IsOnTheWay k (clearing m k g o)
clearing-on_the_way laws m k g o sound over =
    let now = clearing-sound laws.removes m k g o sound over in
    by_clearing m k g o (λ (c : Change). IsSound c.kernel → IsOnTheWay k c)
    (λ _ so. left_on_the_way laws k (quiet k g) so (none_leaves k g) (λ t. refl))
    (λ _ _ so. left_on_the_way laws k (then_freed (quiet k g) o) so (record { waits = refl; wheel = refl; ends = refl }) (λ t. refl))
    (λ own is none so. let r = removed k g o in
    let below = own_below m k o sound own in
    let by_calls = laws.removed_calls k g o sound in
    one_more_on_the_way laws k r (quiet (freed r.kernel o) r.memory)
    (record { sound = laws.removes.of_object k g o sound below is none; calls = by_calls.calls; only_ends = by_calls.only_ends })
    (left_on_the_way laws r.kernel (quiet (freed r.kernel o) r.memory) so (record { waits = refl; wheel = refl; ends = refl }) (λ t. refl)))
    (λ _ _ so. left_on_the_way laws k (then_freed (quiet (removed_thread k o) g) o) so (record { waits = refl; wheel = refl; ends = refl }) (λ t. refl)) now

-- the kernel's threads of the module are over, and all that ended yet is on the way
slots_cleared-on_the_way : WaitLaws → (m : ℕ) (k : Kernel) (g : Memory) → IsSound k → AreOver k m → IsOnTheWay k (slots_cleared k g m)
slots_cleared-on_the_way laws m k g sound over =
    let all = each_below_keeps (λ i (c : Change). IsOnTheWay k c × AreOver c.kernel m) (one_more (clearing m)) 256
    (λ i c below before. (
      one_more_on_the_way laws k c (clearing m c.kernel c.memory i) before.0 (clearing-on_the_way laws m c.kernel c.memory i before.0.sound before.1),
      clearing-over laws.removes m c.kernel c.memory i before.0.sound before.1,
    ))
    (quiet k g) (left_on_the_way laws k (quiet k g) sound (none_leaves k g) (λ t. refl), over) in
    all.0

ties_ended-leaves : (k : Kernel) (g : Memory) (m : ℕ) → LeavesWaits k (ties_ended k g m)
ties_ended-leaves k g m = for_each_slot_leaves (ungranting m) (ungranting-leaves m) k g

pub halt_calls_waits : WaitLaws → HaltCallsWaits
halt_calls_waits laws k g m sound =
    let ended = threads_ended k g m in
    let cleared = slots_cleared ended.kernel ended.memory m in
    let last = ties_ended cleared.kernel cleared.memory m in
    let over = (threads_ended-sound-over laws.ends m k g sound).1 in
    let first = threads_ended-on_the_way laws m k g sound in
    let third = slots_cleared-on_the_way laws m ended.kernel ended.memory first.sound over in
    let ties = left_on_the_way laws cleared.kernel last (ties_ended-is laws.removes.changes m cleared.kernel cleared.memory third.sound).0
    (ties_ended-leaves cleared.kernel cleared.memory m) (ties_ended-thread m cleared.kernel cleared.memory) in
    let rest = one_more_on_the_way laws ended.kernel cleared last third ties in
    (one_more_on_the_way laws k ended (record last { ends = cleared.ends ++ last.ends }) first rest).calls

-- counts
none_more : (k j l : Kernel) → RaisesCounts 0 k j → RaisesCounts 0 j l → RaisesCounts 0 k l
none_more k j l one more = record {
  begun = omega (arith, one.begun, more.begun);
  armings = omega (arith, one.armings, more.armings);
  ticks = omega (arith, one.ticks, more.ticks);
}

none_if_left : (k : Kernel) (c : Change) → LeavesWaits k c → RaisesCounts 0 k c.kernel
none_if_left k c left =
    let begun = ap (λ (w : WaitTable). w.totals.begun) left.waits in
    let armings = ap (λ (h : TimerTable). h.armings) left.wheel in
    let ticks = ap (λ (h : TimerTable). h.ticks) left.wheel in
    record { begun = omega (arith, begun); armings = omega (arith, armings); ticks = omega (arith, ticks) }

ending-counts : EndRaisesNone → (m : ℕ) (k : Kernel) (g : Memory) (t : ℕ) → RaisesCounts 0 k (ending m k g t).kernel
ending-counts counts m k g t =
    cond_both (is_thread k t && (module_of k t == m)) (ended k g t Terminated) (quiet k g) (λ (c : Change). RaisesCounts 0 k c.kernel)
    (λ _. counts k g t Terminated) (λ _. none_if_left k (quiet k g) (none_leaves k g))

clearing-counts : RemovedRaisesNone → (m : ℕ) (k : Kernel) (g : Memory) (o : ℕ) → RaisesCounts 0 k (clearing m k g o).kernel
clearing-counts counts m k g o =
    let none = none_if_left k (quiet k g) (none_leaves k g) in
    by_clearing m k g o (λ (c : Change). RaisesCounts 0 k c.kernel) (λ _. none)
    (λ _ _. record { begun = none.begun; armings = none.armings; ticks = none.ticks })
    (λ _ _ _. let r = counts k g o in record { begun = r.begun; armings = r.armings; ticks = r.ticks })
    (λ _ _. record { begun = none.begun; armings = none.armings; ticks = none.ticks })

-- what raises no count raises none over all slots
all_raise_none : (change : Kernel → Memory → ℕ → Change) → ((k : Kernel) (g : Memory) (i : ℕ) → RaisesCounts 0 k (change k g i).kernel)
    → (k : Kernel) (g : Memory)
    → RaisesCounts 0 k (for_each_slot change k g).kernel
all_raise_none change each k g =
    for_each_slot_keeps (λ n j. RaisesCounts 0 k j) change (λ n j h below before. none_more k j (change j h n).kernel before (each j h n)) k g
    (none_if_left k (quiet k g) (none_leaves k g))

pub halt_raises_none : EndRaisesNone → RemovedRaisesNone → HaltRaisesNone
halt_raises_none ends removes k g m =
    let ended = threads_ended k g m in
    let cleared = slots_cleared ended.kernel ended.memory m in
    let last = ties_ended cleared.kernel cleared.memory m in
    none_more k ended.kernel last.kernel (all_raise_none (ending m) (ending-counts ends m) k g)
    (none_more ended.kernel cleared.kernel last.kernel (all_raise_none (clearing m) (clearing-counts removes m) ended.kernel ended.memory)
    (none_if_left cleared.kernel last (ties_ended-leaves cleared.kernel cleared.memory m)))
