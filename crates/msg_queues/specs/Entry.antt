-- A queue and its messages, and an entry that has one or none.
use Rattle.std.specs.Prelude.{ℕ, ◌≡◌, ◌-◌, ◌*◌, ◌≤◌, List, [], All, length, Option, None, Some}
use Rattle.std.specs.Prelude.{IfNone, IfSome}
use Rattle.std.specs.Option.{option_map, option_map_or}
use Rattle.tx_types.specs.Limits.{message_limit}
use Rattle.msg_queues.specs.declared.entry.Shape.{Shape}

pub record Queue : Type 0 where
  pub words : ℕ  -- how many words each message has
  pub capacity : ℕ  -- how many messages it holds at most
  pub messages : List (List ℕ)  -- the next to be received first

-- bytes that the messages of a queue have together at most
abbrev pub area_limit : ℕ
area_limit = 4096

-- messages that a queue holds at most, which are those of one word
abbrev pub capacity_limit : ℕ
capacity_limit = 1024

-- a queue without messages
abbrev pub empty_queue : ℕ → ℕ → Queue
empty_queue words capacity = record { words = words; capacity = capacity; messages = [] }

-- what there is in an entry: nothing where it has no queue
abbrev pub words_in : Option Queue → ℕ
words_in e = option_map_or (λ q. q.words) e 0

abbrev pub capacity_in : Option Queue → ℕ
capacity_in e = option_map_or (λ q. q.capacity) e 0

abbrev pub messages_in : Option Queue → List (List ℕ)
messages_in e = option_map_or (λ q. q.messages) e []

-- how many more messages it holds
abbrev pub room_in : Option Queue → ℕ
room_in e = capacity_in e - length (messages_in e)

-- its messages are these, and all else stays
abbrev pub holding : Option Queue → List (List ℕ) → Option Queue
holding e messages = option_map (λ (q : Queue). record q { messages = messages }) e

-- the sizes that a queue may have
pub record IsShape (words capacity : ℕ) : Type 0 where
  pub words_from : 1 ≤ words
  pub words_to : words ≤ message_limit
  pub capacity_from : 1 ≤ capacity
  pub area : 4 * words * capacity ≤ area_limit

-- what holds of every queue
pub record IsQueue (q : Queue) : Type 0 where
  pub shape : IsShape q.words q.capacity
  pub fits : length q.messages ≤ q.capacity
  pub each : All (λ m. length m ≡ q.words) q.messages

-- the queue of a shape, and what holds where an entry keeps the two
abbrev pub seen : Option Shape → List (List ℕ) → Option Queue
seen None messages = None
seen (Some s) messages =
    Some (record { words = s.words; capacity = s.capacity; messages = messages })

pub record IsEntry (s : Option Shape) (messages : List (List ℕ)) : Type 0 where
  pub empty : IfNone s (messages ≡ [])
  pub queue : IfSome (seen s messages) IsQueue
