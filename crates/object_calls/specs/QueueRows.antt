-- The queue services, a row each: the refusals from left to right, then the change (ThreadX User
-- Guide, "Queue Services").
use Rattle.std.specs.Prelude.{ℕ, ◌≡◌, ◌<◌, ◌-◌, ◌*◌, ◌/◌, ◌||◌, Bool, true, false, nat_lt, List, [], ◌∷◌, filter, length, replicate, is_some, Option, None, Some, if◌then◌else◌, ⊤}
use Rattle.std.specs.Option.{option_map_or, option_or}
use Rattle.tx_types.specs.Code.{queue_error, queue_full, size_error}
use Rattle.tx_types.specs.Limits.{message_limit}
use Rattle.tx_types.specs.declared.kind.Kind.TheVariants.{Queue}
use Rattle.tx_types.specs.declared.waits.End.TheVariants.{Satisfied}
use Rattle.call_arguments.specs.Names.{name_at}
use Rattle.call_arguments.specs.Words.{with_words, words_at}
use Rattle.msg_queues.specs.Entry.{Queue as QueueEntry, area_limit}
use Rattle.msg_queues.specs.Queues.{words_of, messages_of, room_of, message_at, popped, flushed}
use Rattle.region_guard.specs.Memory.{Memory}
use Rattle.region_guard.specs.declared.region.Access.TheVariants.{Load, Store}
use Rattle.suspend_lists.specs.Waits.{wait_of}
use Rattle.suspend_lists.specs.declared.wait.Asks.{Asks}
use Rattle.suspend_lists.specs.declared.wait.Asks.TheVariants.{Receive, Send}
use Rattle.kernel_state.specs.Change.{Change, followed, quiet}
use Rattle.kernel_state.specs.ContentLaws.{queue_placed}
use Rattle.kernel_state.specs.Contents.{entered, put}
use Rattle.kernel_state.specs.Kernel.{module_of}
use Rattle.kernel_state.specs.Objects.{all_ended, asks_so, asks_to_receive, asks_to_send, first_that, prioritized, removed, waiters_of, waiting}
use Rattle.kernel_state.specs.Outcome.{Outcome, answered, done, unless, found, given, refused}
use Rattle.kernel_state.specs.Range.{Range, range}
use Rattle.kernel_state.specs.Registers.{arg}
use Rattle.kernel_state.specs.Row.{Row, row, row_to}
use Rattle.kernel_state.specs.Tests.{named, reserved, owner_refusal, caller_refusal}
use Rattle.kernel_state.specs.Waiting.{wait_ended}
use Rattle.kernel_state.specs.declared.kernel.Kernel.{Kernel}

-- why a queue can't have these sizes: no message has so many words, or the area holds none
abbrev pub sizes_refusal : ℕ → ℕ → Option ℕ
sizes_refusal words size =
    option_or (refused (nat_lt words 1 || nat_lt message_limit words) size_error)
    (refused (nat_lt area_limit size || nat_lt size (4 * words)) size_error)

-- a queue is created for as many messages as the area holds
unfoldable pub queue_create_row : Kernel → Memory → ℕ → List ℕ → Outcome
queue_create_row k g by a =
    found k g queue_error (reserved k by (arg a 0) Queue) (λ o.
    given k g (name_at g (module_of k by) (arg a 1)) (λ name.
    unless k g (caller_refusal k g by Store (arg a 3) (arg a 4))
    (unless k g (sizes_refusal (arg a 2) (arg a 4))
    (done (quiet (queue_placed k o name (arg a 2) (arg a 4 / (4 * arg a 2))) g)))))

unfoldable pub queue_delete_row : Kernel → Memory → ℕ → List ℕ → Outcome
queue_delete_row k g by a =
    found k g queue_error (named k by (arg a 0) Queue) (λ o.
    unless k g (owner_refusal k by o) (done (removed k g o)))

-- a message is sent where a receiver waits, or there is room
abbrev pub takes_message : Kernel → ℕ → Bool
takes_message k o = is_some (first_that asks_to_receive k o) || nat_lt 0 (room_of k.queues o)

-- the first receiver gets it, and its wait ends; else it goes in
abbrev pub sent_to : Option ℕ → Kernel → Memory → ℕ → List ℕ → Bool → Change
sent_to (Some t) k g o m front = wait_ended k g t Satisfied m
sent_to None k g o m front = quiet (record k { queues = put k.queues o m front }) g

unfoldable pub sent : Kernel → Memory → ℕ → List ℕ → Bool → Change
sent k g o m front = sent_to (first_that asks_to_receive k o) k g o m front

unfoldable pub sending : Kernel → Memory → ℕ → ℕ → List ℕ → Bool → ℕ → Outcome
sending k g by o m front ticks =
    if takes_message k o then done (sent k g o m front)
    else waiting k g by o (Send m front) ticks

-- the two sends differ in where the message goes
abbrev pub send_row : Bool → Kernel → Memory → ℕ → List ℕ → Outcome
send_row front k g by a =
    found k g queue_error (named k by (arg a 0) Queue) (λ o.
    unless k g (caller_refusal k g by Load (arg a 1) (4 * words_of k.queues o))
    (sending k g by o (words_at g (arg a 1) (words_of k.queues o)) front (arg a 2)))

unfoldable pub queue_send_row : Kernel → Memory → ℕ → List ℕ → Outcome
queue_send_row k g by a = send_row false k g by a

unfoldable pub queue_front_send_row : Kernel → Memory → ℕ → List ℕ → Outcome
queue_front_send_row k g by a = send_row true k g by a

-- a message may go in as its sender's call asks: there is room, and it has the queue's words
abbrev pub MayEnter : List (Option QueueEntry) → ℕ → Asks → Type 0
MayEnter t o (Send m front) = (0 < room_of t o) × (length m ≡ words_of t o)
MayEnter t o _ = ⊤

-- as a message is taken the first sender's goes in, and its wait ends
abbrev pub refilled : Option ℕ → Kernel → Memory → ℕ → Change
refilled None k g o = quiet k g
refilled (Some t) k g o =
    wait_ended (record k { queues = entered k.queues o (wait_of k.waits t) }) g t Satisfied []

unfoldable pub received : Kernel → Memory → ℕ → ℕ → List ℕ → Change
received k g o to m =
    refilled (first_that asks_to_send k o) (record k { queues = popped k.queues o })
    (with_words g to m) o

abbrev pub receiving_from : Option (List ℕ) → Kernel → Memory → ℕ → ℕ → ℕ → ℕ → Outcome
receiving_from (Some m) k g by o to ticks = done (received k g o to m)
receiving_from None k g by o to ticks = waiting k g by o (Receive to) ticks

unfoldable pub receiving : Kernel → Memory → ℕ → ℕ → ℕ → ℕ → Outcome
receiving k g by o to ticks = receiving_from (message_at k.queues o 0) k g by o to ticks

unfoldable pub queue_receive_row : Kernel → Memory → ℕ → List ℕ → Outcome
queue_receive_row k g by a =
    found k g queue_error (named k by (arg a 0) Queue) (λ o.
    unless k g (caller_refusal k g by Store (arg a 1) (4 * words_of k.queues o))
    (receiving k g by o (arg a 1) (arg a 2)))

-- who waits to send
abbrev pub senders : Kernel → ℕ → List ℕ
senders k o = filter (asks_so asks_to_send k) (waiters_of k o)

-- the waits of all senders end, in order, and then all messages go, theirs too
unfoldable pub emptied : Kernel → Memory → ℕ → Change
emptied k g o =
    followed (all_ended Satisfied (senders k o) k g)
    (λ now h. quiet (record now { queues = flushed now.queues o }) h)

unfoldable pub queue_flush_row : Kernel → Memory → ℕ → List ℕ → Outcome
queue_flush_row k g by a =
    found k g queue_error (named k by (arg a 0) Queue) (λ o. done (emptied k g o))

unfoldable pub queue_prioritize_row : Kernel → Memory → ℕ → List ℕ → Outcome
queue_prioritize_row k g by a =
    found k g queue_error (named k by (arg a 0) Queue) (λ o. done (quiet (prioritized k o) g))

-- what is read of a queue
abbrev pub queue_info : Kernel → ℕ → List ℕ
queue_info k o =
    length (messages_of k.queues o) ∷ room_of k.queues o ∷ length (waiters_of k o) ∷ []

unfoldable pub queue_info_get_row : Kernel → Memory → ℕ → List ℕ → Outcome
queue_info_get_row k g by a =
    found k g queue_error (named k by (arg a 0) Queue) (λ o.
    unless k g (caller_refusal k g by Store (arg a 1) 12)
    (done (quiet k (with_words g (arg a 1) (queue_info k o)))))

-- a device sends a word, and zeros after it, and doesn't wait
abbrev pub word_and_zeros : ℕ → ℕ → List ℕ
word_and_zeros w n = w ∷ replicate (n - 1) 0

unfoldable pub queue_sent_by_device : Kernel → Memory → ℕ → ℕ → Outcome
queue_sent_by_device k g o w =
    if takes_message k o then done (sent k g o (word_and_zeros w (words_of k.queues o)) false)
    else answered k g queue_full

-- a message is written with the words of its queue
abbrev pub received_at : Kernel → ℕ → List ℕ → List Range
received_at k by a =
    option_map_or (λ o. range (arg a 1) (4 * words_of k.queues o) ∷ [])
    (named k by (arg a 0) Queue) []

-- each by its number in a7, which is this board's own, with what it does and where it writes
abbrev pub queue_rows : List Row
queue_rows =
    row 0x20 queue_create_row
    ∷ row 0x21 queue_delete_row
    ∷ row 0x22 queue_send_row
    ∷ row 0x23 queue_front_send_row
    ∷ record { number = 0x24; does = queue_receive_row; writes = received_at }
    ∷ row 0x25 queue_flush_row
    ∷ row 0x26 queue_prioritize_row
    ∷ row_to 1 12 0x27 queue_info_get_row
    ∷ []
