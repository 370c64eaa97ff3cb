-- A kernel serves as messages come and go: one is put, taken, replaced by a sender's, or all are flushed.
use Rattle.std.proofs.Common.{◌≡◌, ◌≢◌, ℕ, ◌+◌, ◌-◌, ◌<◌, ◌≤◌, Bool, true, false, List, [], ◌∷◌, ◌++◌, length, length-drop, drop, Option, None, Some, is_some, IfSome, refl, sym, ap, ◌∙◌, subst, ⊎_elim, arith}
use Rattle.std.proofs.lemmas.Bool.{cases_lt, false≢true}
use Rattle.std.proofs.lemmas.List.{get_or-set_same, get_or-set_other, get_or_past, length_push, set_past}
use Rattle.tx_types.specs.declared.kind.Kind.TheVariants.{Queue as QueueKind}
use Rattle.msg_queues.specs.Entry.{IsQueue, Queue, capacity_in, holding, messages_in, room_in}
use Rattle.msg_queues.specs.Laws.{CallsKeepTheTable, Flush, FlushedIsEmpty, Pop, PoppedLeavesTheRest, PushBack, PushFront, PushedBackIsLast, PushedFrontIsFirst, SizesStay}
use Rattle.msg_queues.specs.Queues.{IsQueueTable, capacity_of, flushed, messages_of, popped, queue_of, room_of, with_messages, words_of}
use Rattle.region_guard.specs.Memory.{Memory}
use Rattle.suspend_lists.specs.declared.wait.Asks.{Asks}
use Rattle.suspend_lists.specs.declared.wait.Asks.TheVariants.{Sleep, Receive, Send, Instance, Own, Flags, Bytes, Block, Callback}
use Rattle.kernel_state.specs.ContentLaws.{FlushKeepsServing, PopKeepsServing, PutKeepsServing, RefillKeepsServing}
use Rattle.kernel_state.specs.Contents.{IsAskedOf, entered, is_of, put, put_asked}
use Rattle.kernel_state.specs.Objects.{asks_so, asks_to_send, waiters_of}
use Rattle.kernel_state.specs.Serves.{Serves}
use Rattle.kernel_state.specs.declared.kernel.Kernel.{Kernel}
use Rattle.kernel_state.proofs.ContentChanges.{StaysAsked, object_changes}
use Rattle.kernel_state.proofs.WhoWaits.{asks_by_wait, first_is, in_filter, none_wait_with_message, none_waits_here, stands_if_waits}

-- what the table of queues keeps, by its own laws
pub record QueueLaws : Type 0 where
  pub keep : CallsKeepTheTable
  pub back : PushedBackIsLast
  pub front : PushedFrontIsFirst
  pub rest : PoppedLeavesTheRest
  pub flush : FlushedIsEmpty
  pub sizes : SizesStay

-- the queue of object o has other messages, of as many words as before
record KeepsQueues (o : ℕ) (q r : List (Option Queue)) : Type 0 where
  table : IsQueueTable r
  others : (p : ℕ) → p ≢ o → queue_of r p ≡ queue_of q p
  some : is_some (queue_of r o) ≡ is_some (queue_of q o)
  words : words_of r o ≡ words_of q o

is_some-holding : (e : Option Queue) (ms : List (List ℕ)) → is_some (holding e ms) ≡ is_some e
is_some-holding None ms = refl
is_some-holding (Some q) ms = refl

keeps_with : QueueLaws → (q : List (Option Queue)) (o : ℕ) (ms : List (List ℕ)) → IsQueueTable (with_messages q o ms) → KeepsQueues o q (with_messages q o ms)
keeps_with laws q o ms table = record {
  table = table;
  others = λ p there. get_or-set_other q o p (holding (queue_of q o) ms) None there;
  some = ⊎_elim (λ inside. ap is_some (get_or-set_same q o (holding (queue_of q o) ms) None inside) ∙ is_some-holding (queue_of q o) ms)
      (λ past. ap (λ (u : List (Option Queue)). is_some (queue_of u o)) (set_past q o (holding (queue_of q o) ms) past)) (cases_lt o (length q));
  words = (laws.sizes q o ms).0;
}

keeps_both : (o : ℕ) (q r u : List (Option Queue)) → KeepsQueues o q r → KeepsQueues o r u → KeepsQueues o q u
keeps_both o q r u first second = record {
  table = second.table;
  others = λ p there. second.others p there ∙ first.others p there;
  some = second.some ∙ first.some;
  words = second.words ∙ first.words;
}

put_keeps : QueueLaws → (q : List (Option Queue)) (o : ℕ) (m : List ℕ) (front : Bool) → IsQueueTable q → 0 < room_of q o → length m ≡ words_of q o
    → KeepsQueues o q (put q o m front)
put_keeps laws q o m true table room whole = keeps_with laws q o (m ∷ messages_of q o) (laws.keep q (PushFront o m) table (room, whole))
put_keeps laws q o m false table room whole = keeps_with laws q o (messages_of q o ++ m ∷ []) (laws.keep q (PushBack o m) table (room, whole))

pop_keeps : QueueLaws → (q : List (Option Queue)) (o : ℕ) → IsQueueTable q → KeepsQueues o q (popped q o)
pop_keeps laws q o table = keeps_with laws q o (drop 1 (messages_of q o)) (laws.keep q (Pop o) table tt)

-- a kernel serves with other messages in one queue
queue_changes : (k : Kernel) (g : Memory) (o : ℕ) (r : List (Option Queue)) → Serves k g → KeepsQueues o k.queues r
    → StaysAsked o k.objects k.queues k.semas k.objects r k.semas k.waits → Serves (record k { queues = r }) g
queue_changes k g o r serves keeps asked =
    let was = serves.sound.formed in
    object_changes k g o k.objects r k.semas serves (record {
      kinds = λ kind p there. refl;
      owners = λ p. refl;
      queues = keeps.others;
      counts = λ p there. refl;
      queue_table = keeps.table;
      sema_table = was.contents.sema_table;
      queue = keeps.some ∙ was.contents.queue o;
      no_sema = was.contents.no_sema o;
    }) refl was.clean refl asked (λ t x is on. keeps.words)

-- where nobody waits
pub put_keeps_serving : QueueLaws → PutKeepsServing
put_keeps_serving laws k g o m front serves room whole none =
    queue_changes k g o (put k.queues o m front) serves (put_keeps laws k.queues o m front serves.sound.formed.contents.queue_table room whole)
    (λ t x is on asked. absurd (none_waits_here k o t x serves.sound none is on))

pub pop_keeps_serving : QueueLaws → PopKeepsServing
pop_keeps_serving laws k g o serves some none =
    queue_changes k g o (popped k.queues o) serves (pop_keeps laws k.queues o serves.sound.formed.contents.queue_table)
    (λ t x is on asked. absurd (none_waits_here k o t x serves.sound (none_wait_with_message k o serves.sound some none) is on))

-- what is asked of a queue whose messages changed
asked_of_queue : (k : Kernel) (o : ℕ) (r : List (Option Queue)) (asks : Asks) → words_of r o ≡ words_of k.queues o
    → (messages_of k.queues o ≡ [] → messages_of r o ≡ []) → (asks_to_send asks ≡ true → room_of k.queues o ≡ 0 → room_of r o ≡ 0)
    → IsAskedOf k.objects k.queues k.semas o asks → IsAskedOf k.objects r k.semas o asks
asked_of_queue k o r (Receive to) words empty full asked = (asked.0, empty asked.1)
asked_of_queue k o r (Send m front) words empty full asked = (asked.0, full refl asked.1, asked.2 ∙ sym words)
asked_of_queue k o r Instance words empty full asked = asked
asked_of_queue k o r Sleep words empty full asked = asked
asked_of_queue k o r Own words empty full asked = asked
asked_of_queue k o r (Flags want option to) words empty full asked = asked
asked_of_queue k o r (Bytes size to) words empty full asked = asked
asked_of_queue k o r (Block to) words empty full asked = asked
asked_of_queue k o r (Callback to) words empty full asked = asked

pub flush_keeps_serving : QueueLaws → FlushKeepsServing
flush_keeps_serving laws k g o serves none =
    let table = serves.sound.formed.contents.queue_table in
    let keeps = keeps_with laws k.queues o [] (laws.keep k.queues (Flush o) table tt) in
    queue_changes k g o (flushed k.queues o) serves keeps (λ t x is on.
    asked_of_queue k o (flushed k.queues o) x.asks keeps.words (λ _. laws.flush k.queues o) (λ sends _.
    let stands = stands_if_waits k.waits o t x serves.sound.formed.waits is on in
    absurd (in_filter (asks_so asks_to_send k) t (waiters_of k o) stands (asks_by_wait asks_to_send k t x is ∙ sends) none)))

-- a queue without room has a message at least, and as many as it holds
record IsFull (q : List (Option Queue)) (o : ℕ) : Type 0 where
  some : 1 ≤ capacity_of q o
  full : length (messages_of q o) ≡ capacity_of q o

full_if_no_room : (q : List (Option Queue)) (o : ℕ) → IsQueueTable q → is_some (queue_of q o) ≡ true → room_of q o ≡ 0 → IsFull q o
full_if_no_room q o table some none = by_entry (queue_of q o) refl is_queue some none where
  is_queue : IfSome (queue_of q o) IsQueue
  is_queue =
      ⊎_elim (λ inside. table.each o None inside) (λ past. subst (λ (e : Option Queue). IfSome e IsQueue) (sym (get_or_past q o None past)) tt)
      (cases_lt o (length q))

  by_entry : (e : Option Queue) → queue_of q o ≡ e → IfSome e IsQueue → is_some e ≡ true → room_in e ≡ 0 → IsFull q o
  by_entry None is queue is_one room = absurd (false≢true is_one)
  by_entry (Some x) is queue is_one room = record {
    some = subst (λ (e : Option Queue). 1 ≤ capacity_in e) (sym is) queue.shape.capacity_from;
    full = subst (λ (e : Option Queue). length (messages_in e) ≡ capacity_in e) (sym is) (omega (arith, room, queue.fits));
  }

-- the first message is taken, and a sender's goes in: it is full again
room_when_popped : QueueLaws → (q : List (Option Queue)) (o : ℕ) → IsFull q o → 0 < room_of (popped q o) o
room_when_popped laws q o full =
    let rest : length (messages_of (popped q o) o) ≡ length (messages_of q o) - 1 = ap length (laws.rest q o) ∙ length-drop 1 (messages_of q o) in
    let holds : capacity_of (popped q o) o ≡ capacity_of q o = (laws.sizes q o (drop 1 (messages_of q o))).1 in
    omega (arith, full.some, full.full)

put_length : QueueLaws → (q : List (Option Queue)) (o : ℕ) (m : List ℕ) (front : Bool) → 0 < room_of q o
    → length (messages_of (put q o m front) o) ≡ length (messages_of q o) + 1
put_length laws q o m true room = ap length (laws.front q o m room) ∙ omega arith
put_length laws q o m false room = ap length (laws.back q o m room) ∙ length_push (messages_of q o) m

put_capacity : QueueLaws → (q : List (Option Queue)) (o : ℕ) (m : List ℕ) (front : Bool) → capacity_of (put q o m front) o ≡ capacity_of q o
put_capacity laws q o m true = (laws.sizes q o (m ∷ messages_of q o)).1
put_capacity laws q o m false = (laws.sizes q o (messages_of q o ++ m ∷ [])).1

full_again : QueueLaws → (q : List (Option Queue)) (o : ℕ) (m : List ℕ) (front : Bool) → IsFull q o → room_of (put (popped q o) o m front) o ≡ 0
full_again laws q o m front full =
    let rest : length (messages_of (popped q o) o) ≡ length (messages_of q o) - 1 = ap length (laws.rest q o) ∙ length-drop 1 (messages_of q o) in
    let holds : capacity_of (popped q o) o ≡ capacity_of q o = (laws.sizes q o (drop 1 (messages_of q o))).1 in
    let more = put_length laws (popped q o) o m front (room_when_popped laws q o full) in
    let same = put_capacity laws (popped q o) o m front in
    omega (arith, full.some, full.full)

refilled : QueueLaws → (k : Kernel) (g : Memory) (o : ℕ) (m : List ℕ) (front : Bool) → Serves k g → is_of k.objects QueueKind o ≡ true → room_of k.queues o ≡ 0
    → length m ≡ words_of k.queues o → Serves (record k { queues = put (popped k.queues o) o m front }) g
refilled laws k g o m front serves queue none whole =
    let contents = serves.sound.formed.contents in
    let q = k.queues in
    let full = full_if_no_room q o contents.queue_table (contents.queue o ∙ queue) none in
    let first = pop_keeps laws q o contents.queue_table in
    let second = put_keeps laws (popped q o) o m front first.table (room_when_popped laws q o full) (whole ∙ sym first.words) in
    let keeps = keeps_both o q (popped q o) (put (popped q o) o m front) first second in
    queue_changes k g o (put (popped q o) o m front) serves keeps (λ t x is on.
    asked_of_queue k o (put (popped q o) o m front) x.asks keeps.words
    (λ empty. let zero = ap length empty in absurd (omega (arith, full.some, full.full))) (λ _ _. full_again laws q o m front full))

pub refill_keeps_serving : QueueLaws → RefillKeepsServing
refill_keeps_serving laws k g o t serves first =
    let sender = first_is asks_to_send k o t serves.sound first in
    let waiter = sender.waiter in
    subst (λ (r : List (Option Queue)). Serves (record k { queues = r }) g) (sym (ap (entered (popped k.queues o) o) waiter.is))
    (by_asks waiter.wait.asks sender.asks waiter.asks) where
      by_asks : (asks : Asks) → asks_to_send asks ≡ true → IsAskedOf k.objects k.queues k.semas o asks
          → Serves (record k { queues = put_asked (popped k.queues o) o asks }) g
      by_asks (Send m front) sends asked = refilled laws k g o m front serves asked.0 asked.1 asked.2
      by_asks (Receive to) sends asked = absurd (false≢true sends)
      by_asks Instance sends asked = absurd (false≢true sends)
      by_asks Sleep sends asked = absurd asked
      by_asks Own sends asked = absurd asked
      by_asks (Flags want option to) sends asked = absurd asked
      by_asks (Bytes size to) sends asked = absurd asked
      by_asks (Block to) sends asked = absurd asked
      by_asks (Callback to) sends asked = absurd asked
