-- The table of queues, by the number of their object, and what each call leaves of it.
use Rattle.std.specs.Prelude.{ℕ, ◌≡◌, List, [], ◌∷◌, ◌++◌, All, length, drop, replicate, slice_get}
use Rattle.std.specs.Prelude.{slice_set, Option, None, Some, IfSome}
use Rattle.std.specs.List.{slice_index_or}
use Rattle.tx_types.specs.Limits.{slot_limit}
use Rattle.msg_queues.specs.Entry.{Queue, IsQueue, empty_queue, words_in, capacity_in, messages_in}
use Rattle.msg_queues.specs.Entry.{room_in, holding}

-- no object is a queue
abbrev pub no_queues : List (Option Queue)
no_queues = replicate slot_limit None

-- what holds of every table
pub record IsQueueTable (t : List (Option Queue)) : Type 0 where
  pub size : length t ≡ slot_limit
  pub each : All (λ e. IfSome e IsQueue) t

-- the queue of an object, where it is one
abbrev pub queue_of : List (Option Queue) → ℕ → Option Queue
queue_of t o = slice_index_or t o None

-- words of each of its messages, how many it holds at most, the messages, and its room for more
abbrev pub words_of : List (Option Queue) → ℕ → ℕ
words_of t o = words_in (queue_of t o)

abbrev pub capacity_of : List (Option Queue) → ℕ → ℕ
capacity_of t o = capacity_in (queue_of t o)

abbrev pub messages_of : List (Option Queue) → ℕ → List (List ℕ)
messages_of t o = messages_in (queue_of t o)

abbrev pub room_of : List (Option Queue) → ℕ → ℕ
room_of t o = room_in (queue_of t o)

-- the message at a place, from the first on
abbrev pub message_at : List (Option Queue) → ℕ → ℕ → Option (List ℕ)
message_at t o i = slice_get (messages_of t o) i

-- an object becomes a queue without messages, and is no queue any more
abbrev pub created : List (Option Queue) → ℕ → ℕ → ℕ → List (Option Queue)
created t o words capacity = slice_set t o (Some (empty_queue words capacity))

abbrev pub removed : List (Option Queue) → ℕ → List (Option Queue)
removed t o = slice_set t o None

-- the messages of one queue become these, and all else stays
abbrev pub with_messages : List (Option Queue) → ℕ → List (List ℕ) → List (Option Queue)
with_messages t o messages = slice_set t o (holding (queue_of t o) messages)

-- a message goes last, or first
abbrev pub pushed_back : List (Option Queue) → ℕ → List ℕ → List (Option Queue)
pushed_back t o m = with_messages t o (messages_of t o ++ m ∷ [])

abbrev pub pushed_front : List (Option Queue) → ℕ → List ℕ → List (Option Queue)
pushed_front t o m = with_messages t o (m ∷ messages_of t o)

-- the first message is taken, or all are
abbrev pub popped : List (Option Queue) → ℕ → List (Option Queue)
popped t o = with_messages t o (drop 1 (messages_of t o))

abbrev pub flushed : List (Option Queue) → ℕ → List (Option Queue)
flushed t o = with_messages t o []
