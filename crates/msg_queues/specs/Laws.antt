-- What holds over all calls of a table of queues.
use Rattle.std.specs.Prelude.{ℕ, ◌≡◌, ◌≢◌, ◌<◌, List, [], ◌∷◌, ◌++◌, length, drop, Option, None}
use Rattle.std.specs.Prelude.{Some, option_to_list, ⊤}
use Rattle.msg_queues.specs.Entry.{Queue, IsShape, empty_queue}
use Rattle.msg_queues.specs.Queues.{IsQueueTable, queue_of, words_of, capacity_of, messages_of}
use Rattle.msg_queues.specs.Queues.{room_of, message_at, created, removed, with_messages}
use Rattle.msg_queues.specs.Queues.{pushed_back, pushed_front, popped, flushed}

-- the calls that change the table
pub data Call : Type 0 where
  Create : (o words capacity : ℕ) → Call
  Remove : (o : ℕ) → Call
  PushBack : (o : ℕ) (m : List ℕ) → Call
  PushFront : (o : ℕ) (m : List ℕ) → Call
  Pop : (o : ℕ) → Call
  Flush : (o : ℕ) → Call

abbrev pub called : List (Option Queue) → Call → List (Option Queue)
called t (Create o words capacity) = created t o words capacity
called t (Remove o) = removed t o
called t (PushBack o m) = pushed_back t o m
called t (PushFront o m) = pushed_front t o m
called t (Pop o) = popped t o
called t (Flush o) = flushed t o

-- when a call may be made: a message is pushed where there is room, and has the words of the queue
abbrev pub MayCall : List (Option Queue) → Call → Type 0
MayCall t (Create o words capacity) = IsShape words capacity
MayCall t (Remove o) = ⊤
MayCall t (PushBack o m) = (0 < room_of t o) × (length m ≡ words_of t o)
MayCall t (PushFront o m) = (0 < room_of t o) × (length m ≡ words_of t o)
MayCall t (Pop o) = ⊤
MayCall t (Flush o) = ⊤

-- each call keeps what holds of every table
abbrev pub CallsKeepTheTable : Type 0
CallsKeepTheTable =
    (t : List (Option Queue)) (c : Call) → IsQueueTable t → MayCall t c
    → IsQueueTable (called t c)

-- a call changes the queue of its own object alone
abbrev pub own_object : Call → ℕ
own_object (Create o words capacity) = o
own_object (Remove o) = o
own_object (PushBack o m) = o
own_object (PushFront o m) = o
own_object (Pop o) = o
own_object (Flush o) = o

abbrev pub CallsSpareOthers : Type 0
CallsSpareOthers =
    (t : List (Option Queue)) (c : Call) (o : ℕ) → o ≢ own_object c
    → queue_of (called t c) o ≡ queue_of t o

-- what a call leaves of its own queue
abbrev pub CreatedIsThere : Type 0
CreatedIsThere =
    (t : List (Option Queue)) (o words capacity : ℕ) → o < length t
    → queue_of (created t o words capacity) o ≡ Some (empty_queue words capacity)

abbrev pub RemovedIsGone : Type 0
RemovedIsGone = (t : List (Option Queue)) (o : ℕ) → queue_of (removed t o) o ≡ None

abbrev pub PushedBackIsLast : Type 0
PushedBackIsLast =
    (t : List (Option Queue)) (o : ℕ) (m : List ℕ) → 0 < room_of t o
    → messages_of (pushed_back t o m) o ≡ messages_of t o ++ m ∷ []

abbrev pub PushedFrontIsFirst : Type 0
PushedFrontIsFirst =
    (t : List (Option Queue)) (o : ℕ) (m : List ℕ) → 0 < room_of t o
    → messages_of (pushed_front t o m) o ≡ m ∷ messages_of t o

abbrev pub PoppedLeavesTheRest : Type 0
PoppedLeavesTheRest =
    (t : List (Option Queue)) (o : ℕ) → messages_of (popped t o) o ≡ drop 1 (messages_of t o)

abbrev pub FlushedIsEmpty : Type 0
FlushedIsEmpty = (t : List (Option Queue)) (o : ℕ) → messages_of (flushed t o) o ≡ []

-- its sizes stay as messages come and go
abbrev pub SizesStay : Type 0
SizesStay =
    (t : List (Option Queue)) (o : ℕ) (messages : List (List ℕ))
    → (words_of (with_messages t o messages) o ≡ words_of t o)
    × (capacity_of (with_messages t o messages) o ≡ capacity_of t o)

-- a queue to which messages are sent and from which they are received, in turn
pub data Turn : Type 0 where
  Send : (m : List ℕ) → Turn
  Receive : Turn

abbrev pub after_turn : List (Option Queue) → ℕ → Turn → List (Option Queue)
after_turn t o (Send m) = pushed_back t o m
after_turn t o Receive = popped t o

-- a message is sent where there is room
abbrev pub MayTurn : List (Option Queue) → ℕ → Turn → Type 0
MayTurn t o (Send m) = 0 < room_of t o
MayTurn t o Receive = ⊤

-- the messages that a turn sends and receives
abbrev pub sent_by : Turn → List (List ℕ)
sent_by (Send m) = m ∷ []
sent_by Receive = []

abbrev pub received_by : List (Option Queue) → ℕ → Turn → List (List ℕ)
received_by t o (Send m) = []
received_by t o Receive = option_to_list (message_at t o 0)

-- a list of turns, each of which may be made in its order
abbrev pub after_turns : List (Option Queue) → ℕ → List Turn → List (Option Queue)
after_turns t o [] = t
after_turns t o (x ∷ xs) = after_turns (after_turn t o x) o xs

abbrev pub MayTurnAll : List (Option Queue) → ℕ → List Turn → Type 0
MayTurnAll t o [] = ⊤
MayTurnAll t o (x ∷ xs) = MayTurn t o x × MayTurnAll (after_turn t o x) o xs

abbrev pub all_sent : List Turn → List (List ℕ)
all_sent [] = []
all_sent (x ∷ xs) = sent_by x ++ all_sent xs

abbrev pub all_received : List (Option Queue) → ℕ → List Turn → List (List ℕ)
all_received t o [] = []
all_received t o (x ∷ xs) = received_by t o x ++ all_received (after_turn t o x) o xs

-- whatever is sent and received in turn: what was received, and then what is left, is what was
-- there, and then what was sent
abbrev pub FirstInFirstOut : Type 0
FirstInFirstOut =
    (t : List (Option Queue)) (o : ℕ) (xs : List Turn) → MayTurnAll t o xs
    → all_received t o xs ++ messages_of (after_turns t o xs) o ≡ messages_of t o ++ all_sent xs
