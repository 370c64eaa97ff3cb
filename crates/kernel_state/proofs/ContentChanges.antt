-- As what is in one object changes, what else there is stays, and the kernel serves.
use Rattle.std.proofs.Common.{◌≡◌, ◌≢◌, ℕ, ◌<◌, false, List, length, Option, None, Some, is_some, IfSome, refl, sym, ap, ◌∙◌, subst, ⊎_elim}
use Rattle.std.proofs.lemmas.Bool.{cases_eq}
use Rattle.tx_types.specs.declared.kind.Kind.{Kind}
use Rattle.tx_types.specs.declared.kind.Kind.TheVariants.{Queue as QueueKind, Semaphore as SemaphoreKind, Thread as ThreadKind}
use Rattle.msg_queues.specs.Entry.{Queue, words_in, messages_in, room_in}
use Rattle.msg_queues.specs.Queues.{IsQueueTable, queue_of, words_of}
use Rattle.sync_objects.specs.Semas.{IsSemaTable, count_of}
use Rattle.object_grants.specs.Table.{slot}
use Rattle.object_grants.specs.declared.slot.Slot.{Slot}
use Rattle.region_guard.specs.Memory.{Memory}
use Rattle.suspend_lists.specs.Waits.{WaitTable, wait_of}
use Rattle.suspend_lists.specs.declared.wait.Asks.{Asks}
use Rattle.suspend_lists.specs.declared.wait.Asks.TheVariants.{Sleep, Receive, Send, Instance, Own, Flags, Bytes, Block, Callback}
use Rattle.suspend_lists.specs.declared.wait.On.{On}
use Rattle.suspend_lists.specs.declared.wait.On.TheVariants.{Object, Callbacks, Sleep as Nowhere}
use Rattle.suspend_lists.specs.declared.wait.Wait.{Wait}
use Rattle.kernel_state.specs.Contents.{AreAsked, AreContents, ArePromised, IsAsked, IsAskedAt, IsAskedOf, IsPlace, IsPromised, is_of, result_words}
use Rattle.kernel_state.specs.Kernel.{has_thread, is_thread}
use Rattle.kernel_state.specs.Serves.{Serves}
use Rattle.kernel_state.specs.Sound.{IsSound, IsClean}
use Rattle.kernel_state.specs.Waiting.{wanted_at}
use Rattle.kernel_state.specs.declared.kernel.Kernel.{Kernel}
use Rattle.kernel_state.proofs.Sound.{objects_change}

-- the slot of object o and what is in it change: objects a, queues q and counts s become b, r and u
pub record ChangesAt (o : ℕ) (a : List Slot) (q : List (Option Queue)) (s : List ℕ) (b : List Slot) (r : List (Option Queue)) (u : List ℕ) : Type 0 where
  pub kinds : (kind : Kind) (p : ℕ) → p ≢ o → is_of b kind p ≡ is_of a kind p
  pub owners : (p : ℕ) → (slot b p).owner ≡ (slot a p).owner
  pub queues : (p : ℕ) → p ≢ o → queue_of r p ≡ queue_of q p
  pub counts : (p : ℕ) → p ≢ o → count_of u p ≡ count_of s p
  pub queue_table : IsQueueTable r
  pub sema_table : IsSemaTable u
  pub queue : is_some (queue_of r o) ≡ is_of b QueueKind o
  pub no_sema : is_of b SemaphoreKind o ≡ false → count_of u o ≡ 0

contents_at : (o : ℕ) (a b : List Slot) (q r : List (Option Queue)) (s u : List ℕ) → ChangesAt o a q s b r u → AreContents a q s → AreContents b r u
contents_at o a b q r s u changes was = record {
  queue_table = changes.queue_table;
  sema_table = changes.sema_table;
  queue = λ p. ⊎_elim (λ (here : p ≡ o). subst (λ n. is_some (queue_of r n) ≡ is_of b QueueKind n) (sym here) changes.queue)
      (λ (there : p ≢ o). ap is_some (changes.queues p there) ∙ (was.queue p ∙ sym (changes.kinds QueueKind p there))) (cases_eq p o);
  no_sema = λ p. ⊎_elim (λ (here : p ≡ o). subst (λ n. is_of b SemaphoreKind n ≡ false → count_of u n ≡ 0) (sym here) changes.no_sema)
      (λ (there : p ≢ o) none. changes.counts p there ∙ was.no_sema p (sym (changes.kinds SemaphoreKind p there) ∙ none)) (cases_eq p o);
}

-- who waits for another object asks as before
asked_there : (o p : ℕ) (a b : List Slot) (q r : List (Option Queue)) (s u : List ℕ) (asks : Asks) → ChangesAt o a q s b r u → p ≢ o
    → IsAskedOf a q s p asks → IsAskedOf b r u p asks
asked_there o p a b q r s u (Receive to) changes there asked = (changes.kinds QueueKind p there ∙ asked.0, ap messages_in (changes.queues p there) ∙ asked.1)
asked_there o p a b q r s u (Send m front) changes there asked =
    (changes.kinds QueueKind p there ∙ asked.0, ap room_in (changes.queues p there) ∙ asked.1, asked.2 ∙ sym (ap words_in (changes.queues p there)))
asked_there o p a b q r s u Instance changes there asked = (changes.kinds SemaphoreKind p there ∙ asked.0, changes.counts p there ∙ asked.1)
asked_there o p a b q r s u Sleep changes there asked = asked
asked_there o p a b q r s u Own changes there asked = asked
asked_there o p a b q r s u (Flags want option to) changes there asked = asked
asked_there o p a b q r s u (Bytes size to) changes there asked = asked
asked_there o p a b q r s u (Block to) changes there asked = asked
asked_there o p a b q r s u (Callback to) changes there asked = asked

asked_at : (o : ℕ) (a b : List Slot) (q r : List (Option Queue)) (s u : List ℕ) (on : On) (asks : Asks) → ChangesAt o a q s b r u
    → (on ≡ Object o → IsAskedOf a q s o asks → IsAskedOf b r u o asks) → IsAskedAt a q s on asks → IsAskedAt b r u on asks
asked_at o a b q r s u (Object p) asks changes own asked = (
  asked.0,
  ⊎_elim (λ (here : p ≡ o). subst (λ n. IsAskedOf b r u n asks) (sym here) (own (ap (λ n. Object n) here) (subst (λ n. IsAskedOf a q s n asks) here asked.1)))
      (λ (there : p ≢ o). asked_there o p a b q r s u asks changes there asked.1) (cases_eq p o),
)
asked_at o a b q r s u (Callbacks m) asks changes own asked = asked
asked_at o a b q r s u Nowhere asks changes own asked = asked

-- a fact of a wait that a thread is in
of_wait : (v : Option Wait) (P Q : Wait → Type 0) → ((x : Wait) → v ≡ Some x → P x → Q x) → IfSome v P → IfSome v Q
of_wait None P Q from h = tt
of_wait (Some x) P Q from h = from x refl h

-- what is asked of an object where it changed, by those who wait for it
abbrev pub StaysAsked : ℕ → List Slot → List (Option Queue) → List ℕ → List Slot → List (Option Queue) → List ℕ → WaitTable → Type 0
StaysAsked o a q s b r u w = (t : ℕ) (x : Wait) → wait_of w t ≡ Some x → x.on ≡ Object o → IsAskedOf a q s o x.asks → IsAskedOf b r u o x.asks

all_asked_at : (o : ℕ) (a b : List Slot) (q r : List (Option Queue)) (s u : List ℕ) (w : WaitTable) → ChangesAt o a q s b r u → StaysAsked o a q s b r u w
    → AreAsked a q s w → AreAsked b r u w
all_asked_at o a b q r s u w changes own asked t =
    of_wait (wait_of w t) (IsAsked a q s) (IsAsked b r u)
    (λ x is was. record { at = asked_at o a b q r s u x.on x.asks changes (own t x is) was.at; code = was.code }) (asked t)

-- where a result was promised it is, as words of the queues stay at which somebody waits
words_at : (o : ℕ) (q r : List (Option Queue)) (on : On) → ((p : ℕ) → p ≢ o → queue_of r p ≡ queue_of q p) → (on ≡ Object o → words_of r o ≡ words_of q o)
    → result_words r on ≡ result_words q on
words_at o q r (Object p) others own = ⊎_elim (λ (here : p ≡ o). subst (λ n. words_of r n ≡ words_of q n) (sym here) (own (ap (λ n. Object n) here)))
    (λ (there : p ≢ o). ap words_in (others p there)) (cases_eq p o)
words_at o q r (Callbacks m) others own = refl
words_at o q r Nowhere others own = refl

abbrev pub StayWords : ℕ → List (Option Queue) → List (Option Queue) → WaitTable → Type 0
StayWords o q r w = (t : ℕ) (x : Wait) → wait_of w t ≡ Some x → x.on ≡ Object o → words_of r o ≡ words_of q o

promised_at : (o : ℕ) (a b : List Slot) (q r : List (Option Queue)) (s u : List ℕ) (w : WaitTable) (g : Memory) → ChangesAt o a q s b r u → StayWords o q r w
    → ArePromised g a q w → ArePromised g b r w
promised_at o a b q r s u w g changes own promised t =
    of_wait (wait_of w t) (IsPromised g (slot a t).owner q) (IsPromised g (slot b t).owner r) (λ x is was.
    let same = words_at o q r x.on changes.queues (own t x is) in
    let kept = subst (λ (n : ℕ). IfSome (wanted_at x.asks) (IsPlace g (slot a t).owner n)) (sym same) was in
    subst (λ (m : ℕ). IsPromised g m r x) (sym (changes.owners t)) kept) (promised t)

-- a kernel stays sound as one object changes, but a thread
pub object_keeps_sound : (k : Kernel) (o : ℕ) (b : List Slot) (r : List (Option Queue)) (u : List ℕ) → IsSound k
    → ChangesAt o k.objects k.queues k.semas b r u → length b ≡ length k.objects → ((p : ℕ) → p < 256 → IsClean (slot b p) (slot b p).state)
    → has_thread (slot b o) ≡ is_thread k o → StaysAsked o k.objects k.queues k.semas b r u k.waits
    → IsSound (record k { objects = b; queues = r; semas = u })
object_keeps_sound k o b r u sound changes size clean thread asked =
    objects_change k b r u sound size clean
    (λ p. ⊎_elim (λ (here : p ≡ o). subst (λ n. has_thread (slot b n) ≡ is_thread k n) (sym here) thread)
    (λ (there : p ≢ o). changes.kinds ThreadKind p there) (cases_eq p o))
    (λ p _. changes.owners p) (contents_at o k.objects b k.queues r k.semas u changes sound.formed.contents)
    (all_asked_at o k.objects b k.queues r k.semas u k.waits changes asked sound.formed.asked)

-- and serves
pub object_changes : (k : Kernel) (g : Memory) (o : ℕ) (b : List Slot) (r : List (Option Queue)) (u : List ℕ) → Serves k g
    → ChangesAt o k.objects k.queues k.semas b r u → length b ≡ length k.objects → ((p : ℕ) → p < 256 → IsClean (slot b p) (slot b p).state)
    → has_thread (slot b o) ≡ is_thread k o
    → StaysAsked o k.objects k.queues k.semas b r u k.waits → StayWords o k.queues r k.waits
    → Serves (record k { objects = b; queues = r; semas = u }) g
object_changes k g o b r u serves changes size clean thread asked words = record {
  sound = object_keeps_sound k o b r u serves.sound changes size clean thread asked;
  running = serves.running;
  promised = promised_at o k.objects b k.queues r k.semas u k.waits g changes words serves.promised;
}
