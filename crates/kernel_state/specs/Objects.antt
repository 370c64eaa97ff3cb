-- Who waits for an object, how an object of any kind ends, and who of the waiters goes first.
use Rattle.std.specs.Prelude.{ℕ, ◌==◌, nat_le, Bool, true, false, List, [], ◌∷◌, find, Option, None, Some, if◌then◌else◌}
use Rattle.std.specs.List.{list_all}
use Rattle.std.specs.Option.{option_and_then, option_map_or}
use Rattle.tx_types.specs.declared.waits.End.{End}
use Rattle.tx_types.specs.declared.waits.End.TheVariants.{Deleted}
use Rattle.msg_queues.specs.Queues.{removed as no_queue_at}
use Rattle.sync_objects.specs.Semas.{removed as no_count_at}
use Rattle.region_guard.specs.Memory.{Memory}
use Rattle.suspend_lists.specs.Waits.{first_at, put_first, wait_of, waiters}
use Rattle.suspend_lists.specs.declared.wait.Asks.{Asks}
use Rattle.suspend_lists.specs.declared.wait.Asks.TheVariants.{Receive, Send}
use Rattle.suspend_lists.specs.declared.wait.On.TheVariants.{Object}
use Rattle.suspend_lists.specs.declared.wait.Wait.{Wait}
use Rattle.kernel_state.specs.Change.{Change, followed, quiet}
use Rattle.kernel_state.specs.Contents.{code_of}
use Rattle.kernel_state.specs.Kernel.{effective_priority, slot_emptied}
use Rattle.kernel_state.specs.Outcome.{Outcome, answered, answering}
use Rattle.kernel_state.specs.Waiting.{wait_begun, wait_ended}
use Rattle.kernel_state.specs.declared.answer.Answer.TheVariants.{Waits}
use Rattle.kernel_state.specs.declared.kernel.Kernel.{Kernel}

-- the threads that wait for an object, in order, and the first of them
abbrev pub waiters_of : Kernel → ℕ → List ℕ
waiters_of k o = waiters k.waits (Some o)

abbrev pub first_waiter : Kernel → ℕ → Option ℕ
first_waiter k o = first_at k.waits (Object o)

-- waits end in the same way, one after another, without a result
abbrev pub all_ended : End → List ℕ → Kernel → Memory → Change
all_ended e [] k g = quiet k g
all_ended e (t ∷ ts) k g = followed (wait_ended k g t e []) (all_ended e ts)

-- nothing is in an object any more, whatever its kind was
abbrev pub without_contents : Kernel → ℕ → Kernel
without_contents k o =
    record k { queues = no_queue_at k.queues o; semas = no_count_at k.semas o }

-- an object is removed: its waiters end as Deleted, in order; then what is in it, its grants and
-- its name end, and its slot is Empty (ThreadX User Guide, `tx_queue_delete`)
unfoldable pub removed : Kernel → Memory → ℕ → Change
removed k g o =
    followed (all_ended Deleted (waiters_of k o) k g)
    (λ now h. quiet (slot_emptied (without_contents now o) o) h)

-- a caller that can't be served now waits for the object, where it asked to, and is refused else
abbrev pub wait_at : Kernel → ℕ → ℕ → Asks → Wait
wait_at k by o asks = record {
  on = Object o;
  asks = asks;
  code = code_of asks;
  asked = effective_priority k by;
}

unfoldable pub waiting : Kernel → Memory → ℕ → ℕ → Asks → ℕ → Outcome
waiting k g by o asks ticks =
    if ticks == 0 then answered k g (code_of asks)
    else answering (quiet (wait_begun k by (wait_at k by o asks) ticks) g) Waits

-- the waiter of the least effective priority, the first of equals, goes first, and the others stay
-- in order (ThreadX User Guide, `tx_queue_prioritize`)
abbrev pub most_urgent : Kernel → List ℕ → Option ℕ
most_urgent k ts =
    find (λ t. list_all (λ u. nat_le (effective_priority k t) (effective_priority k u)) ts) ts

abbrev pub put_ahead_of_all : Kernel → Option ℕ → Kernel
put_ahead_of_all k None = k
put_ahead_of_all k (Some t) = record k { waits = put_first k.waits t }

unfoldable pub prioritized : Kernel → ℕ → Kernel
prioritized k o = put_ahead_of_all k (most_urgent k (waiters_of k o))

-- what a waiter asks
abbrev pub asks_to_receive : Asks → Bool
asks_to_receive (Receive to) = true
asks_to_receive _ = false

abbrev pub asks_to_send : Asks → Bool
asks_to_send (Send m front) = true
asks_to_send _ = false

abbrev pub asks_so : (Asks → Bool) → Kernel → ℕ → Bool
asks_so test k t = option_map_or (λ w. test w.asks) (wait_of k.waits t) false

-- the first waiter of an object, where it asks so: all waiters of an object ask alike
abbrev pub first_that : (Asks → Bool) → Kernel → ℕ → Option ℕ
first_that test k o =
    option_and_then (λ t. if asks_so test k t then Some t else None) (first_waiter k o)
