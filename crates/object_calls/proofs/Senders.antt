-- Either all who wait for an object wait to send, or none of them does.
use Rattle.std.proofs.Common.{◌≡◌, ◌≢◌, ℕ, ◌==◌, ◌&&◌, Bool, true, false, cond, List, [], ◌∷◌, All, filter, length, Option, None, Some, is_some, IfSome, refl, sym, ap, ◌∙◌, subst, ⊎_elim, eq-eqb, arith}
use Rattle.std.proofs.lemmas.Bool.{and_left, and_parts, and_right, cases_lt, cond-false, cond-true, eqb-true, false≢true, ne_eqb, or_left, or_right}
use Rattle.std.proofs.lemmas.List.{get_or_past}
use Rattle.std.proofs.lemmas.List.Elements.{All-weaker, filter_passes}
use Rattle.std.specs.Option.{option_map_or}
use Rattle.tx_types.specs.Kind.{kind_number}
use Rattle.tx_types.specs.declared.kind.Kind.{Kind}
use Rattle.tx_types.specs.declared.kind.Kind.TheVariants.{Queue as QueueKind, Semaphore as SemaphoreKind}
use Rattle.tx_types.specs.declared.waits.End.TheVariants.{Satisfied, Gone}
use Rattle.msg_queues.specs.Entry.{IsQueue, Queue, messages_in, room_in}
use Rattle.msg_queues.specs.Queues.{IsQueueTable, messages_of, queue_of, room_of}
use Rattle.object_grants.specs.Slot.{is_in, is_kind}
use Rattle.object_grants.specs.Table.{slot}
use Rattle.object_grants.specs.declared.slot.Slot.{Slot}
use Rattle.object_grants.specs.declared.slot.SlotState.TheVariants.{Live}
use Rattle.suspend_lists.specs.ThreadList.{has}
use Rattle.suspend_lists.specs.Waits.{wait_of}
use Rattle.suspend_lists.specs.declared.wait.Asks.{Asks}
use Rattle.suspend_lists.specs.declared.wait.Asks.TheVariants.{Sleep, Receive, Send, Instance, Own, Flags, Bytes, Block, Callback}
use Rattle.suspend_lists.specs.declared.wait.Wait.{Wait}
use Rattle.kernel_state.specs.ContentLaws.{WaiterIsOne}
use Rattle.kernel_state.specs.Contents.{AreContents, IsAskedOf, is_of}
use Rattle.kernel_state.specs.ObjectLaws.{HasNoResult}
use Rattle.kernel_state.specs.Objects.{asks_so, asks_to_send, first_that, waiters_of}
use Rattle.kernel_state.specs.Sound.{IsSound}
use Rattle.kernel_state.specs.Waiting.{result_of, wanted_at}
use Rattle.kernel_state.specs.declared.kernel.Kernel.{Kernel}
use Rattle.object_calls.specs.QueueRows.{senders}

-- a semaphore is no queue
pub no_queue_if_semaphore : (s : Slot) → (is_in Live s && is_kind SemaphoreKind s) ≡ true → (is_in Live s && is_kind QueueKind s) ≡ false
no_queue_if_semaphore s is = and_right (is_in Live s) (is_kind QueueKind s) (by_kind s.kind ((and_parts (is_in Live s) (is_kind SemaphoreKind s) is).1)) where
  by_kind : (k : Option Kind) → option_map_or (λ own. kind_number own == 3) k false ≡ true → option_map_or (λ own. kind_number own == 2) k false ≡ false
  by_kind None e = absurd (false≢true e)
  by_kind (Some own) e = ap (λ n. n == 2) (eqb-true (kind_number own) 3 e)

-- a queue without messages has room
room_if_empty : (q : List (Option Queue)) (o : ℕ) → IsQueueTable q → is_some (queue_of q o) ≡ true → messages_of q o ≡ [] → (room_of q o == 0) ≡ false
room_if_empty q o table some empty = by_entry (queue_of q o) is_queue some empty where
  is_queue : IfSome (queue_of q o) IsQueue
  is_queue =
      ⊎_elim (λ inside. table.each o None inside) (λ past. subst (λ (e : Option Queue). IfSome e IsQueue) (sym (get_or_past q o None past)) tt)
      (cases_lt o (length q))

  by_entry : (e : Option Queue) → IfSome e IsQueue → is_some e ≡ true → messages_in e ≡ [] → (room_in e == 0) ≡ false
  by_entry None queue is none = absurd (false≢true is)
  by_entry (Some x) queue is none =
      let size : length x.messages ≡ 0 = ap length none in
      let capacity = queue.shape.capacity_from in
      ne_eqb (room_in (Some x)) 0 (omega (arith, size, capacity))

-- a queue without room for more
abbrev is_full : Kernel → ℕ → Bool
is_full k o = is_of k.objects QueueKind o && (room_of k.queues o == 0)

sends_if_full : (k : Kernel) (o : ℕ) (asks : Asks) → AreContents k.objects k.queues k.semas → IsAskedOf k.objects k.queues k.semas o asks
    → asks_to_send asks ≡ is_full k o
sends_if_full k o (Receive to) contents asked =
    sym (and_right (is_of k.objects QueueKind o) (room_of k.queues o == 0)
    (room_if_empty k.queues o contents.queue_table (contents.queue o ∙ asked.0) asked.1))
sends_if_full k o (Send m front) contents asked =
    sym (ap (λ b. b && (room_of k.queues o == 0)) asked.0 ∙ eq-eqb (room_of k.queues o) 0 asked.1)
sends_if_full k o Instance contents asked =
    sym (and_left (is_of k.objects QueueKind o) (room_of k.queues o == 0) (no_queue_if_semaphore (slot k.objects o) asked.0))
sends_if_full k o Sleep contents asked = absurd asked
sends_if_full k o Own contents asked = absurd asked
sends_if_full k o (Flags want option to) contents asked = absurd asked
sends_if_full k o (Bytes size to) contents asked = absurd asked
sends_if_full k o (Block to) contents asked = absurd asked
sends_if_full k o (Callback to) contents asked = absurd asked

waiter_sends_if_full : WaiterIsOne → (k : Kernel) (o t : ℕ) → IsSound k → has t (waiters_of k o) ≡ true → asks_so asks_to_send k t ≡ is_full k o
waiter_sends_if_full one k o t sound there =
    let w = one k o t sound there in
    ap (λ (v : Option Wait). option_map_or (λ y. asks_to_send y.asks) v false) w.is
    ∙ sends_if_full k o w.wait.asks sound.formed.contents w.asks

-- a filter by a test that all pass, or none
filter_alike : (p : ℕ → Bool) (b : Bool) (ts : List ℕ) → ((t : ℕ) → has t ts ≡ true → p t ≡ b) → filter p ts ≡ cond b ts []
filter_alike p b [] same = elim b as (λ c. ◌≡◌ {A = List ℕ} [] (cond c [] [])) [ true ↦ refl | false ↦ refl ]
filter_alike p b (t ∷ ts) same =
    let first : p t ≡ b = same t (or_left (t == t) (has t ts) (eq-eqb t t refl)) in
    let rest = filter_alike p b ts (λ u there. same u (or_right (u == t) (has u ts) there)) in
    elim b as (λ c. p t ≡ c → filter p ts ≡ cond c ts [] → filter p (t ∷ ts) ≡ cond c (t ∷ ts) []) [
      | true ↦ λ yes others. cond-true (p t) (t ∷ filter p ts) (filter p ts) yes ∙ ap (λ (us : List ℕ). t ∷ us) others
      | false ↦ λ no others. cond-false (p t) (t ∷ filter p ts) (filter p ts) no ∙ others
    ] first rest

-- all who wait for an object, where the first of them waits to send, or else none of them
pub senders_are : WaiterIsOne → (k : Kernel) (o : ℕ) (s : Option ℕ) (b : Bool) → IsSound k → s ≡ first_that asks_to_send k o → is_some s ≡ b
    → senders k o ≡ cond b (waiters_of k o) []
senders_are one k o s b sound first is_first =
    by_list (waiters_of k o) refl ∙ ap (λ c. cond c (waiters_of k o) []) (sym (ap is_some first) ∙ is_first) where
      first_alike : (b : Bool) (t : ℕ) → is_some (cond b (Some t) None) ≡ b
      first_alike true t = refl
      first_alike false t = refl

      by_list : (ts : List ℕ) → waiters_of k o ≡ ts → senders k o ≡ cond (is_some (first_that asks_to_send k o)) (waiters_of k o) []
      by_list [] is = rw is refl
      by_list (t ∷ ts) is =
          let first : has t (waiters_of k o) ≡ true = ap (has t) is ∙ or_left (t == t) (has t ts) (eq-eqb t t refl) in
          let full = is_full k o in
          let all = filter_alike (asks_so asks_to_send k) full (waiters_of k o) (λ u there. waiter_sends_if_full one k o u sound there) in
          let same : is_some (first_that asks_to_send k o) ≡ full =
          rw is (first_alike (asks_so asks_to_send k t) t) ∙ waiter_sends_if_full one k o t sound first in
          all ∙ ap (λ b. cond b (waiters_of k o) []) (sym same)

-- as its wait ends a thread isn't gone
pub satisfied_is_not_gone : Satisfied ≢ Gone
satisfied_is_not_gone same = cc

-- who waits to send gets no result
sender_has_no_result : (k : Kernel) (t : ℕ) → asks_so asks_to_send k t ≡ true → HasNoResult k Satisfied t
sender_has_no_result k t sends = by_wait (wait_of k.waits t) sends where
  by_asks : (asks : Asks) → asks_to_send asks ≡ true → wanted_at asks ≡ None
  by_asks (Send m front) is = refl
  by_asks (Receive to) is = absurd (false≢true is)
  by_asks Instance is = absurd (false≢true is)
  by_asks Sleep is = absurd (false≢true is)
  by_asks Own is = absurd (false≢true is)
  by_asks (Flags want option to) is = absurd (false≢true is)
  by_asks (Bytes size to) is = absurd (false≢true is)
  by_asks (Block to) is = absurd (false≢true is)
  by_asks (Callback to) is = absurd (false≢true is)

  by_wait : (w : Option Wait) → option_map_or (λ y. asks_to_send y.asks) w false ≡ true → result_of w Satisfied ≡ None
  by_wait None is = absurd (false≢true is)
  by_wait (Some x) is = by_asks x.asks is

pub senders_have_no_result : (k : Kernel) (o : ℕ) → All (HasNoResult k Satisfied) (senders k o)
senders_have_no_result k o =
    All-weaker (λ t. asks_so asks_to_send k t ≡ true) (HasNoResult k Satisfied) (sender_has_no_result k) (senders k o)
    (filter_passes (asks_so asks_to_send k) (waiters_of k o))
