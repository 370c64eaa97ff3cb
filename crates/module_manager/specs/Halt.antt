-- The halt of a module: all that it has in the kernel ends.
use Rattle.std.specs.Prelude.{◌≡◌, ℕ, zero, suc, ◌==◌, ◌&&◌, true, if◌then◌else◌}
use Rattle.tx_types.specs.Limits.{slot_limit}
use Rattle.tx_types.specs.declared.state.State.TheVariants.{Terminated}
use Rattle.object_grants.specs.Slot.{is_in, owns}
use Rattle.object_grants.specs.Table.{slot, after_free, after_revoke}
use Rattle.object_grants.specs.declared.slot.SlotState.TheVariants.{Live}
use Rattle.region_guard.specs.Memory.{Memory}
use Rattle.kernel_state.specs.Change.{Change, followed, quiet}
use Rattle.kernel_state.specs.Kernel.{is_thread, module_of, removed_thread, thread}
use Rattle.kernel_state.specs.Objects.{removed}
use Rattle.kernel_state.specs.Thread.{is_over}
use Rattle.kernel_state.specs.ThreadChanges.{ended}
use Rattle.kernel_state.specs.declared.kernel.Kernel.{Kernel}

-- something changes for each number below n, from 0 on
unfoldable pub each_below : {A : Type 0} → ℕ → (A → ℕ → A) → A → A
each_below zero change x = x
each_below (suc n) change x = change (each_below n change x) n

-- a change is made for one number more, and for each slot's number
abbrev pub one_more : (Kernel → Memory → ℕ → Change) → Change → ℕ → Change
one_more change c n = followed c (λ k g. change k g n)

abbrev pub for_each_slot : (Kernel → Memory → ℕ → Change) → Kernel → Memory → Change
for_each_slot change k g = each_below slot_limit (one_more change) (quiet k g)

-- a thread of the module is terminated, unless it is over already
abbrev pub ending : ℕ → Kernel → Memory → ℕ → Change
ending m k g t = if is_thread k t && (module_of k t == m) then ended k g t Terminated else quiet k g

-- an object is removed: a thread, for which nobody waits, or any other, whose waiters end as
-- Deleted
abbrev pub removed_by_kind : Kernel → Memory → ℕ → Change
removed_by_kind k g o =
    if is_thread k o then quiet (removed_thread k o) g
    else if is_in Live (slot k.objects o) then removed k g o
    else quiet k g

-- a slot of the module, Empty or Live, is freed; an object in it is removed first
abbrev pub freed : Kernel → ℕ → Kernel
freed k o = record k { objects = after_free k.objects o }

abbrev pub then_freed : Change → ℕ → Change
then_freed c o = followed c (λ now h. quiet (freed now o) h)

abbrev pub clearing : ℕ → Kernel → Memory → ℕ → Change
clearing m k g o =
    if owns m (slot k.objects o) then then_freed (removed_by_kind k g o) o else quiet k g

-- no thread of the module goes on
abbrev pub AreOver : Kernel → ℕ → Type 0
AreOver k m =
    (t : ℕ) → is_thread k t ≡ true → module_of k t ≡ m → is_over (thread k t).state ≡ true

-- what the module was granted of an object ends
abbrev pub ungranting : ℕ → Kernel → Memory → ℕ → Change
ungranting m k g o = quiet (record k { objects = after_revoke k.objects m o }) g

-- all threads of the module end
abbrev pub threads_ended : Kernel → Memory → ℕ → Change
threads_ended k g m = for_each_slot (ending m) k g

-- the mutexes that they own are handed over; there are none yet
abbrev pub handed_over : Kernel → Memory → ℕ → Change
handed_over k g m = quiet k g

-- its slots are freed, with all objects in them
abbrev pub slots_cleared : Kernel → Memory → ℕ → Change
slots_cleared k g m = for_each_slot (clearing m) k g

-- its grants end; its callback ended with the thread, and nothing is registered yet
abbrev pub ties_ended : Kernel → Memory → ℕ → Change
ties_ended k g m = for_each_slot (ungranting m) k g

abbrev pub halted : Kernel → Memory → ℕ → Change
halted k g m =
    followed (threads_ended k g m) (λ k g.
    followed (handed_over k g m) (λ k g.
    followed (slots_cleared k g m) (λ k g. ties_ended k g m)))
