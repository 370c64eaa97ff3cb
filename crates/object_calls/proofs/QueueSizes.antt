-- The sizes of queues and their messages.
use Rattle.std.proofs.Common.{◌≡◌, ℕ, ◌<◌, ◌≤◌, true, List, [], ◌∷◌, All, Option, None, Some, IfSome, IsSome, length, drop, is_some, refl, sym, ap, ◌∙◌, subst, ⊎_elim, length-drop, arith}
use Rattle.std.proofs.lemmas.Bool.{cases_lt, false≢true}
use Rattle.std.proofs.lemmas.List.{get_or_past}
use Rattle.std.proofs.lemmas.List.Elements.{All-head}
use Rattle.std.proofs.lemmas.Option.{none-some, same_Some}
use Rattle.std.specs.List.{slice_get}
use Rattle.tx_types.specs.Limits.{message_limit}
use Rattle.tx_types.specs.declared.kind.Kind.TheVariants.{Queue as QueueKind}
use Rattle.msg_queues.specs.Entry.{IsQueue, Queue, capacity_in, messages_in, words_in}
use Rattle.msg_queues.specs.Laws.{PoppedLeavesTheRest, SizesStay}
use Rattle.msg_queues.specs.Queues.{IsQueueTable, message_at, messages_of, popped, queue_of, room_of, words_of}
use Rattle.object_grants.specs.declared.slot.Slot.{Slot}
use Rattle.suspend_lists.specs.Waits.{wait_of}
use Rattle.suspend_lists.specs.declared.wait.Asks.{Asks}
use Rattle.suspend_lists.specs.declared.wait.Asks.TheVariants.{Sleep, Receive, Send, Instance, Own, Flags, Bytes, Block, Callback}
use Rattle.suspend_lists.specs.declared.wait.Wait.{Wait}
use Rattle.kernel_state.specs.ContentLaws.{WaiterIsOne}
use Rattle.kernel_state.specs.Contents.{IsAskedOf, is_of}
use Rattle.kernel_state.specs.Objects.{asks_to_send, first_that}
use Rattle.kernel_state.specs.Sound.{IsSound}
use Rattle.kernel_state.specs.declared.kernel.Kernel.{Kernel}
use Rattle.object_calls.specs.QueueRows.{MayEnter}
use Rattle.object_calls.proofs.FirstWaiter.{first_asks}

-- each queue of a table has its facts
pub queue_is_one : (t : List (Option Queue)) (o : ℕ) → IsQueueTable t → IfSome (queue_of t o) IsQueue
queue_is_one t o table =
    ⊎_elim (λ (below : o < length t). table.each o None below)
    (λ past. subst (λ (e : Option Queue). IfSome e IsQueue) (sym (get_or_past t o None past)) tt) (cases_lt o (length t))

words_if_queue : (e : Option Queue) → IfSome e IsQueue → is_some e ≡ true → (1 ≤ words_in e) × (words_in e ≤ message_limit)
words_if_queue None each some = absurd (false≢true some)
words_if_queue (Some q) each some = (each.shape.words_from, each.shape.words_to)

pub words_from_one : (k : Kernel) (o : ℕ) → IsSound k → is_of k.objects QueueKind o ≡ true → (1 ≤ words_of k.queues o) × (words_of k.queues o ≤ message_limit)
words_from_one k o sound queue =
    words_if_queue (queue_of k.queues o) (queue_is_one k.queues o sound.formed.contents.queue_table) (sound.formed.contents.queue o ∙ queue)

-- each message of a queue has the words of the queue
whole_in : (e : Option Queue) (m : List ℕ) → IfSome e IsQueue → slice_get (messages_in e) 0 ≡ Some m → length m ≡ words_in e
whole_in None m each is = absurd (none-some m is)
whole_in (Some q) m each is = by_list q.messages each.each is where
  by_list : (ms : List (List ℕ)) → All (λ x. length x ≡ q.words) ms → slice_get ms 0 ≡ Some m → length m ≡ q.words
  by_list [] whole is = absurd (none-some m is)
  by_list (x ∷ xs) whole is = subst (λ (y : List ℕ). length y ≡ q.words) (same_Some x m is) (All-head (λ y. length y ≡ q.words) x xs whole)

pub first_is_whole : (t : List (Option Queue)) (o : ℕ) (m : List ℕ) → IsQueueTable t → message_at t o 0 ≡ Some m → length m ≡ words_of t o
first_is_whole t o m table is = whole_in (queue_of t o) m (queue_is_one t o table) is

has_words_in : (e : Option Queue) (m : List ℕ) → IfSome e IsQueue → slice_get (messages_in e) 0 ≡ Some m → 0 < words_in e
has_words_in None m each is = absurd (none-some m is)
has_words_in (Some q) m each is = each.shape.words_from

pub first_has_words : (t : List (Option Queue)) (o : ℕ) (m : List ℕ) → IsQueueTable t → message_at t o 0 ≡ Some m → 0 < words_of t o
first_has_words t o m table is = has_words_in (queue_of t o) m (queue_is_one t o table) is

-- as the first message is taken from a full queue there is room for one
fits_in : (e : Option Queue) → IfSome e IsQueue → length (messages_in e) ≤ capacity_in e
fits_in None each = omega arith
fits_in (Some q) each = each.fits

some_in : (ms : List (List ℕ)) → IsSome (slice_get ms 0) → 0 < length ms
some_in [] some = absurd (false≢true some)
some_in (m ∷ ms) some = omega arith

pub room_after : PoppedLeavesTheRest → SizesStay → (t : List (Option Queue)) (o : ℕ) → IsQueueTable t → IsSome (message_at t o 0) → 0 < room_of (popped t o) o
room_after popped_leaves sizes t o table some =
    let fits = fits_in (queue_of t o) (queue_is_one t o table) in
    let one = some_in (messages_of t o) some in
    let rest = ap length (popped_leaves t o) ∙ length-drop 1 (messages_of t o) in
    let same = (sizes t o (drop 1 (messages_of t o))).1 in
    omega arith

-- so the message of the first sender may go in as its call asked
may_enter_asked : PoppedLeavesTheRest → SizesStay → (objects : List Slot) (t : List (Option Queue)) (semas : List ℕ) (o : ℕ) (asks : Asks) → IsQueueTable t
    → IsSome (message_at t o 0) → IsAskedOf objects t semas o asks → MayEnter (popped t o) o asks
may_enter_asked leaves sizes objects t semas o (Send m front) table some asked =
    (room_after leaves sizes t o table some, asked.2 ∙ sym (sizes t o (drop 1 (messages_of t o))).0)
may_enter_asked leaves sizes objects t semas o (Receive to) table some asked = tt
may_enter_asked leaves sizes objects t semas o Instance table some asked = tt
may_enter_asked leaves sizes objects t semas o Sleep table some asked = tt
may_enter_asked leaves sizes objects t semas o Own table some asked = tt
may_enter_asked leaves sizes objects t semas o (Flags want option to) table some asked = tt
may_enter_asked leaves sizes objects t semas o (Bytes size to) table some asked = tt
may_enter_asked leaves sizes objects t semas o (Block to) table some asked = tt
may_enter_asked leaves sizes objects t semas o (Callback to) table some asked = tt

pub sender_may_enter : PoppedLeavesTheRest → SizesStay → WaiterIsOne → (k : Kernel) (o t : ℕ) → IsSound k → IsSome (message_at k.queues o 0)
    → first_that asks_to_send k o ≡ Some t → IfSome (wait_of k.waits t) (λ w. MayEnter (popped k.queues o) o w.asks)
sender_may_enter leaves sizes waiter k o t sound some is =
    let w = (first_asks waiter asks_to_send k o t sound is).waiter in
    subst (λ (v : Option Wait). IfSome v (λ x. MayEnter (popped k.queues o) o x.asks)) (sym w.is)
    (may_enter_asked leaves sizes k.objects k.queues k.semas o w.wait.asks sound.formed.contents.queue_table some w.asks)

-- a queue has no message where it has no first one
pub none_if_no_first : (ms : List (List ℕ)) → slice_get ms 0 ≡ None → ms ≡ []
none_if_no_first [] none = refl
none_if_no_first (m ∷ ms) none = absurd (none-some m (sym none))
