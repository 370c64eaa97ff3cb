-- What a call leaves of the table of queues.
use Rattle.std.proofs.Common.{◌≡◌, ℕ, ◌<◌, List, [], ◌∷◌, ◌++◌, length, length-set, drop, slice_set, Option, None, Some, IfSome, ⊎_elim, refl, ap, sym, subst}
use Rattle.std.proofs.Common.{◌∙◌, arith, append_assoc}
use Rattle.std.proofs.lemmas.Bool.{cases_lt}
use Rattle.std.proofs.lemmas.List.{append-nil, get_or-set_same, get_or-set_other, get_or_past, set_past, length-replicate}
use Rattle.std.proofs.lemmas.List.Elements.{All-set, All-replicate}
use Rattle.std.specs.List.{slice_get}
use Rattle.std.specs.Option.{option_to_list}
use Rattle.msg_queues.specs.Entry.{Queue, IsQueue, empty_queue, words_in, capacity_in, messages_in, room_in, holding}
use Rattle.msg_queues.specs.Laws.{Create, Remove, PushBack, PushFront, Pop, Flush, CallsKeepTheTable, CallsSpareOthers, CreatedIsThere, RemovedIsGone}
use Rattle.msg_queues.specs.Laws.{PushedBackIsLast, PushedFrontIsFirst, PoppedLeavesTheRest, FlushedIsEmpty, SizesStay, Send, Receive, after_turn, after_turns}
use Rattle.msg_queues.specs.Laws.{all_sent, all_received, FirstInFirstOut}
use Rattle.msg_queues.specs.Queues.{IsQueueTable, no_queues, queue_of, messages_of, with_messages, popped}
use Rattle.msg_queues.proofs.Entries.{empty_is_queue, pushed_back_keeps, pushed_front_keeps, popped_keeps, flushed_keeps}

pub new_is_table : IsQueueTable no_queues
new_is_table = record {
  size = length-replicate {A = Option Queue} 256 None;
  each = All-replicate (λ (e : Option Queue). IfSome e IsQueue) 256 None tt;
}

pub is_queue : (t : List (Option Queue)) (o : ℕ) → IsQueueTable t → IfSome (queue_of t o) IsQueue
is_queue t o table =
    ⊎_elim (λ inside. table.each o None inside) (λ past. subst (λ (e : Option Queue). IfSome e IsQueue) (sym (get_or_past t o None past)) tt)
    (cases_lt o (length t))

pub with_queue : (t : List (Option Queue)) (o : ℕ) (e : Option Queue) → IsQueueTable t → IfSome e IsQueue → IsQueueTable (slice_set t o e)
with_queue t o e table queue = record {
  size = length-set t o e ∙ table.size;
  each = All-set (λ (x : Option Queue). IfSome x IsQueue) t o e queue table.each;
}

pub calls_keep : CallsKeepTheTable
calls_keep t (Create o words capacity) table may = with_queue t o (Some (empty_queue words capacity)) table (empty_is_queue words capacity may)
calls_keep t (Remove o) table may = with_queue t o None table tt
calls_keep t (PushBack o m) table may = with_queue t o _ table (pushed_back_keeps (queue_of t o) m (is_queue t o table) may.0 may.1)
calls_keep t (PushFront o m) table may = with_queue t o _ table (pushed_front_keeps (queue_of t o) m (is_queue t o table) may.0 may.1)
calls_keep t (Pop o) table may = with_queue t o _ table (popped_keeps (queue_of t o) (is_queue t o table))
calls_keep t (Flush o) table may = with_queue t o _ table (flushed_keeps (queue_of t o) (is_queue t o table))

pub calls_spare_others : CallsSpareOthers
calls_spare_others t (Create p words capacity) o other = get_or-set_other t p o (Some (empty_queue words capacity)) None other
calls_spare_others t (Remove p) o other = get_or-set_other t p o None None other
calls_spare_others t (PushBack p m) o other = get_or-set_other t p o _ None other
calls_spare_others t (PushFront p m) o other = get_or-set_other t p o _ None other
calls_spare_others t (Pop p) o other = get_or-set_other t p o _ None other
calls_spare_others t (Flush p) o other = get_or-set_other t p o _ None other

-- the queue of an object after its own call

pub created_is_there : CreatedIsThere
created_is_there t o words capacity inside = get_or-set_same t o (Some (empty_queue words capacity)) None inside

pub removed_is_gone : RemovedIsGone
removed_is_gone t o =
    ⊎_elim (λ inside. get_or-set_same t o None None inside)
    (λ past. ap (λ (u : List (Option Queue)). queue_of u o) (set_past t o None past) ∙ get_or_past t o None past)
    (cases_lt o (length t))

pub own-with : (t : List (Option Queue)) (o : ℕ) (ms : List (List ℕ)) → queue_of (with_messages t o ms) o ≡ holding (queue_of t o) ms
own-with t o ms =
    ⊎_elim (λ inside. get_or-set_same t o (holding (queue_of t o) ms) None inside)
    (λ past. let none = get_or_past t o None past in
    ap (λ (u : List (Option Queue)). queue_of u o) (set_past t o (holding (queue_of t o) ms) past)
    ∙ (none ∙ sym (ap (λ (e : Option Queue). holding e ms) none)))
    (cases_lt o (length t))

messages-holding : (e : Option Queue) (ms : List (List ℕ)) → 0 < room_in e → messages_in (holding e ms) ≡ ms
messages-holding None ms free = absurd (omega arith)
messages-holding (Some q) ms free = refl

pub pushed_back_is_last : PushedBackIsLast
pushed_back_is_last t o m free = ap messages_in (own-with t o _) ∙ messages-holding (queue_of t o) _ free

pub pushed_front_is_first : PushedFrontIsFirst
pushed_front_is_first t o m free = ap messages_in (own-with t o _) ∙ messages-holding (queue_of t o) _ free

pub popped_leaves_the_rest : PoppedLeavesTheRest
popped_leaves_the_rest t o = ap messages_in (own-with t o _) ∙ rest (queue_of t o) where
  rest : (e : Option Queue) → messages_in (holding e (drop 1 (messages_in e))) ≡ drop 1 (messages_in e)
  rest None = refl
  rest (Some q) = refl

pub flushed_is_empty : FlushedIsEmpty
flushed_is_empty t o = ap messages_in (own-with t o []) ∙ none (queue_of t o) where
  none : (e : Option Queue) → messages_in (holding e []) ≡ []
  none None = refl
  none (Some q) = refl

pub sizes_stay : SizesStay
sizes_stay t o ms = (ap words_in (own-with t o ms) ∙ same_words (queue_of t o), ap capacity_in (own-with t o ms) ∙ same_capacity (queue_of t o)) where
  same_words : (e : Option Queue) → words_in (holding e ms) ≡ words_in e
  same_words None = refl
  same_words (Some q) = refl

  same_capacity : (e : Option Queue) → capacity_in (holding e ms) ≡ capacity_in e
  same_capacity None = refl
  same_capacity (Some q) = refl

-- first in, first out

first-rest : (ms : List (List ℕ)) → option_to_list (slice_get ms 0) ++ drop 1 ms ≡ ms
first-rest [] = refl
first-rest (m ∷ ms) = refl

pub first_in_first_out : FirstInFirstOut
first_in_first_out t o [] may = sym (append-nil (messages_of t o))
first_in_first_out t o (Send m ∷ xs) may =
    first_in_first_out (after_turn t o (Send m)) o xs may.1
    ∙ (ap (λ (ms : List (List ℕ)). ms ++ all_sent xs) (pushed_back_is_last t o m may.0) ∙ append_assoc (messages_of t o) (m ∷ []) (all_sent xs))
first_in_first_out t o (Receive ∷ xs) may =
    let first = option_to_list (slice_get (messages_of t o) 0) in
    let rest = first_in_first_out (popped t o) o xs may.1 in
    append_assoc first (all_received (popped t o) o xs) (messages_of (after_turns (popped t o) o xs) o)
    ∙ (ap (λ (ms : List (List ℕ)). first ++ ms) (rest ∙ ap (λ (ms : List (List ℕ)). ms ++ all_sent xs) (popped_leaves_the_rest t o))
    ∙ (sym (append_assoc first (drop 1 (messages_of t o)) (all_sent xs)) ∙ ap (λ (ms : List (List ℕ)). ms ++ all_sent xs) (first-rest (messages_of t o))))
