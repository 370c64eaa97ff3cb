-- What holds of an entry stays so as its messages change.
use Rattle.std.proofs.Common.{◌≡◌, ℕ, ◌<◌, ◌≤◌, List, [], ◌∷◌, ◌++◌, length, length-drop, drop, Option, None, Some, IfSome, arith}
use Rattle.std.proofs.lemmas.List.{length_push}
use Rattle.std.proofs.lemmas.List.Elements.{All-nil, All-cons, All-push, All-drop}
use Rattle.std.specs.List.{All}
use Rattle.msg_queues.specs.Entry.{Queue, IsShape, IsQueue, empty_queue, words_in, capacity_in, messages_in, room_in, holding}

-- no message has another number of words, and there are no more than it holds
pub each-words : (e : Option Queue) → IfSome e IsQueue → All (λ m. length m ≡ words_in e) (messages_in e)
each-words None queue = All-nil (λ (m : List ℕ). length m ≡ 0)
each-words (Some q) queue = queue.each

pub fits-capacity : (e : Option Queue) → IfSome e IsQueue → length (messages_in e) ≤ capacity_in e
fits-capacity None queue = omega arith
fits-capacity (Some q) queue = queue.fits

-- other messages of its words, no more than it holds
pub still_queue : (e : Option Queue) (ns : List (List ℕ)) → IfSome e IsQueue → length ns ≤ capacity_in e → All (λ m. length m ≡ words_in e) ns
    → IfSome (holding e ns) IsQueue
still_queue None ns queue fits each = tt
still_queue (Some q) ns queue fits each = record { shape = queue.shape; fits = fits; each = each }

pub pushed_back_keeps : (e : Option Queue) (m : List ℕ) → IfSome e IsQueue → 0 < room_in e → length m ≡ words_in e
    → IfSome (holding e (messages_in e ++ m ∷ [])) IsQueue
pushed_back_keeps e m queue free whole =
    let more = length_push (messages_in e) m in
    still_queue e (messages_in e ++ m ∷ []) queue (omega arith) (All-push (λ n. length n ≡ words_in e) (messages_in e) m (each-words e queue) whole)

pub pushed_front_keeps : (e : Option Queue) (m : List ℕ) → IfSome e IsQueue → 0 < room_in e → length m ≡ words_in e
    → IfSome (holding e (m ∷ messages_in e)) IsQueue
pushed_front_keeps e m queue free whole =
    still_queue e (m ∷ messages_in e) queue (omega arith) (All-cons (λ n. length n ≡ words_in e) m (messages_in e) whole (each-words e queue))

pub popped_keeps : (e : Option Queue) → IfSome e IsQueue → IfSome (holding e (drop 1 (messages_in e))) IsQueue
popped_keeps e queue =
    let fewer = length-drop 1 (messages_in e) in
    let fits = fits-capacity e queue in
    still_queue e (drop 1 (messages_in e)) queue (omega arith) (All-drop (λ n. length n ≡ words_in e) 1 (messages_in e) (each-words e queue))

pub flushed_keeps : (e : Option Queue) → IfSome e IsQueue → IfSome (holding e []) IsQueue
flushed_keeps e queue = still_queue e [] queue (omega arith) (All-nil (λ n. length n ≡ words_in e))

pub empty_is_queue : (words capacity : ℕ) → IsShape words capacity → IsQueue (empty_queue words capacity)
empty_is_queue words capacity shape = record { shape = shape; fits = omega arith; each = All-nil (λ (m : List ℕ). length m ≡ words) }
