-- How the wait of a thread begins, and how it ends.
use Rattle.std.specs.Prelude.{◌≡◌, ℕ, ◌*◌, ◌==◌, ◌||◌, Bool, true, false, not, List, length, Option}
use Rattle.std.specs.Prelude.{None, Some, IfSome, if◌then◌else◌}
use Rattle.std.specs.Option.{option_and_then, option_map, option_to_list}
use Rattle.tx_types.specs.Code.{success, deleted, wait_aborted}
use Rattle.tx_types.specs.declared.state.State.{State}
use Rattle.tx_types.specs.declared.state.State.TheVariants.{Suspended, Sleep as Asleep, QueueSusp}
use Rattle.tx_types.specs.declared.state.State.TheVariants.{SemaphoreSusp, EventFlag, BlockMemory}
use Rattle.tx_types.specs.declared.state.State.TheVariants.{ByteMemory, MutexSusp}
use Rattle.tx_types.specs.declared.waits.End.{End}
use Rattle.tx_types.specs.declared.waits.End.TheVariants.{Satisfied, TimedOut, Aborted, Deleted}
use Rattle.tx_types.specs.declared.waits.End.TheVariants.{Gone}
use Rattle.suspend_lists.specs.Waits.{begun, ended, number_of, place_of, wait_of}
use Rattle.suspend_lists.specs.declared.wait.Asks.{Asks}
use Rattle.suspend_lists.specs.declared.wait.Asks.TheVariants.{Sleep, Receive, Send, Instance, Own}
use Rattle.suspend_lists.specs.declared.wait.Asks.TheVariants.{Flags, Bytes, Block, Callback}
use Rattle.suspend_lists.specs.declared.wait.Wait.{Wait}
use Rattle.soft_timers.specs.Timers.{armed_for, disarmed}
use Rattle.call_arguments.specs.Words.{with_words}
use Rattle.region_guard.specs.Memory.{Memory, may}
use Rattle.region_guard.specs.declared.region.Access.TheVariants.{Store}
use Rattle.kernel_state.specs.Change.{Change, followed, quiet}
use Rattle.kernel_state.specs.Kernel.{thread, with_thread, module_of}
use Rattle.kernel_state.specs.Readying.{made_ready, made_unready}
use Rattle.kernel_state.specs.Registers.{with_a0}
use Rattle.kernel_state.specs.Thread.{is_state}
use Rattle.kernel_state.specs.declared.kernel.Kernel.{Kernel}

-- the state of a thread that waits, by what it asked for; a callback is waited for as a message
abbrev pub state_of_ask : Asks → State
state_of_ask Sleep = Asleep
state_of_ask (Receive to) = QueueSusp
state_of_ask (Send message front) = QueueSusp
state_of_ask Instance = SemaphoreSusp
state_of_ask Own = MutexSusp
state_of_ask (Flags want option to) = EventFlag
state_of_ask (Bytes size to) = ByteMemory
state_of_ask (Block to) = BlockMemory
state_of_ask (Callback to) = QueueSusp

-- where the caller wants what it asked for: a sleep, room, an instance and a mutex are no words
abbrev pub wanted_at : Asks → Option ℕ
wanted_at Sleep = None
wanted_at (Receive to) = Some to
wanted_at (Send message front) = None
wanted_at Instance = None
wanted_at Own = None
wanted_at (Flags want option to) = Some to
wanted_at (Bytes size to) = Some to
wanted_at (Block to) = Some to
wanted_at (Callback to) = Some to

-- by this number of ticks a wait that isn't a sleep goes on for ever (ThreadX User Guide,
-- TX_WAIT_FOREVER)
abbrev pub wait_forever : ℕ
wait_forever = 0xFFFFFFFF

-- a sleep ends after every number of ticks, and any other wait unless it goes on for ever
abbrev pub is_timed : Asks → ℕ → Bool
is_timed asks ticks = is_state (state_of_ask asks) Asleep || not (ticks == wait_forever)

-- the owner of an inheriting mutex at which a thread waits, or waited, gets its effective pair; no
-- thread owns one yet
abbrev pub owner_settled : Kernel → Option ℕ → Kernel
owner_settled k place = k

-- the running thread begins to wait, last at its place, and its timeout is armed
abbrev pub in_wait : Kernel → ℕ → Wait → ℕ → Kernel
in_wait k t w ticks = record (made_unready k t (state_of_ask w.asks)) {
  waits = begun k.waits t w;
  wheel = (if is_timed w.asks ticks then armed_for k.wheel t ticks else k.wheel);
}

abbrev pub wait_begun : Kernel → ℕ → Wait → ℕ → Kernel
wait_begun k t w ticks = let now = in_wait k t w ticks in owner_settled now (place_of now.waits t)

-- a thread leaves its place, and its timeout is disarmed: this ends its wait
abbrev pub left_wait : Kernel → ℕ → End → Kernel
left_wait k t e = record k { waits = ended k.waits t e; wheel = disarmed k.wheel t }

abbrev pub out_of_wait : Kernel → Memory → ℕ → End → Change
out_of_wait k g t e = record {
  kernel = left_wait k t e;
  memory = g;
  ends = option_to_list (option_map (λ n. record { wait = n; how = e }) (number_of k.waits t));
}

-- where the result goes of a wait that ends so
abbrev pub result_of : Option Wait → End → Option ℕ
result_of w Satisfied = option_and_then (λ x. wanted_at x.asks) w
result_of w TimedOut = None
result_of w Aborted = None
result_of w Deleted = None
result_of w Gone = None

-- what the call answers whose wait ends so: after a timeout what it said itself; who is gone gets
-- no answer
abbrev pub answer_of : Option Wait → End → Option ℕ
answer_of w Satisfied = Some success
answer_of w TimedOut = option_map (λ x. x.code) w
answer_of w Aborted = Some wait_aborted
answer_of w Deleted = Some deleted
answer_of w Gone = None

abbrev pub with_result : Memory → Option ℕ → List ℕ → Memory
with_result g None value = g
with_result g (Some to) value = with_words g to value

-- the result of a thread's wait may be stored there
abbrev pub MayHaveResult : Kernel → Memory → ℕ → End → List ℕ → Type 0
MayHaveResult k g t e value =
    IfSome (result_of (wait_of k.waits t) e)
    (λ to. may g (module_of k t) Store to (4 * length value) ≡ true)

abbrev pub with_answer_to : Kernel → ℕ → Option ℕ → Kernel
with_answer_to k t None = k
with_answer_to k t (Some a0) = with_a0 k t a0

-- a thread goes on after its wait: it is suspended where that was held, and else it is ready
abbrev pub suspended_at_last : Kernel → ℕ → Kernel
suspended_at_last k t = with_thread k t (record (thread k t) { state = Suspended; held = false })

abbrev pub gone_on : Kernel → ℕ → Kernel
gone_on k t = if (thread k t).held then suspended_at_last k t else made_ready k t

-- who is gone doesn't
abbrev pub released : Kernel → ℕ → End → Kernel
released k t Satisfied = gone_on k t
released k t TimedOut = gone_on k t
released k t Aborted = gone_on k t
released k t Deleted = gone_on k t
released k t Gone = k

-- The end of a wait, in order: the thread leaves its place, the result is written where its call
-- asked, a0 is set, the owner of an inheriting mutex is settled, and the thread goes on.
abbrev pub wait_ended : Kernel → Memory → ℕ → End → List ℕ → Change
wait_ended k g t e value =
    let w = wait_of k.waits t in
    let place = place_of k.waits t in
    followed (out_of_wait k g t e) (λ now h.
    followed (quiet now (with_result h (result_of w e) value)) (λ now h.
    followed (quiet (with_answer_to now t (answer_of w e)) h) (λ now h.
    followed (quiet (owner_settled now place) h) (λ now h. quiet (released now t e) h))))
