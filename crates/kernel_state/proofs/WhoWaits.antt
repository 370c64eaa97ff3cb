-- Who waits for an object; and that all who wait for one ask alike.
use Rattle.std.proofs.Common.{◌≡◌, ◌≢◌, ℕ, ◌<◌, ◌==◌, Bool, true, false, cond, List, [], ◌∷◌, filter, Option, None, Some, is_some, IfSome, IsSome, refl, sym, ap, ◌∙◌, subst, eq-eqb, arith}
use Rattle.std.proofs.lemmas.Bool.{cond-true, eqb-true, false≢true, or_left}
use Rattle.std.proofs.lemmas.Option.{cond_some, none-some, same_Some}
use Rattle.std.proofs.lemmas.Map.Views.{any-filter_same}
use Rattle.std.specs.List.{slice_get}
use Rattle.std.specs.Option.{option_and_then, option_map, option_map_or}
use Rattle.tx_types.specs.declared.kind.Kind.TheVariants.{Queue as QueueKind, Semaphore as SemaphoreKind}
use Rattle.msg_queues.specs.Entry.{Queue, messages_in, room_in}
use Rattle.msg_queues.specs.Queues.{message_at, messages_of, queue_of, room_of}
use Rattle.sync_objects.specs.Semas.{count_of}
use Rattle.object_grants.specs.Table.{slot}
use Rattle.object_grants.specs.declared.slot.Slot.{Slot}
use Rattle.suspend_lists.specs.ThreadList.{has}
use Rattle.suspend_lists.specs.Wait.{place}
use Rattle.suspend_lists.specs.Waits.{IsTable, WaitTable, pending, place_of, wait_of, waiters}
use Rattle.suspend_lists.specs.declared.wait.Asks.{Asks}
use Rattle.suspend_lists.specs.declared.wait.Asks.TheVariants.{Sleep, Receive, Send, Instance, Own, Flags, Bytes, Block, Callback}
use Rattle.suspend_lists.specs.declared.wait.On.{On}
use Rattle.suspend_lists.specs.declared.wait.On.TheVariants.{Object, Callbacks, Sleep as Nowhere}
use Rattle.suspend_lists.specs.declared.wait.Pending.{Pending}
use Rattle.suspend_lists.specs.declared.wait.Wait.{Wait}
use Rattle.kernel_state.specs.ContentLaws.{IsWaiter, NoneWaitForInstance, NoneWaitForRoom, WaiterIsOne}
use Rattle.kernel_state.specs.Contents.{IsAsked, IsAskedAt, IsAskedOf, is_of}
use Rattle.kernel_state.specs.Objects.{asks_so, asks_to_receive, asks_to_send, first_that, waiters_of}
use Rattle.kernel_state.specs.Sound.{IsSound}
use Rattle.kernel_state.specs.declared.kernel.Kernel.{Kernel}
use Rattle.kernel_state.proofs.Contents.{is_no_other_object}
use Rattle.kernel_state.proofs.Ends.{waiter_is_thread, waiter_not_ready}

-- a thread stands in the list of a place where its wait is there, and in no other
place_by_wait : (o : Option Pending) → option_and_then (λ p. place p.wait.on) o ≡ option_and_then (λ x. place x.on) (option_map (λ p. p.wait) o)
place_by_wait None = refl
place_by_wait (Some p) = refl

pub stands_if_waits : (w : WaitTable) (o t : ℕ) (x : Wait) → IsTable w → wait_of w t ≡ Some x → x.on ≡ Object o → has t (waiters w (Some o)) ≡ true
stands_if_waits w o t x table is on =
    let there : place_of w t ≡ Some o = place_by_wait (pending w t) ∙ (ap (option_and_then (λ (y : Wait). place y.on)) is ∙ ap place on) in
    table.at_its_place o t ∙ (ap (λ (p : Option ℕ). option_map_or (λ q. q == o) p false) there ∙ eq-eqb o o refl)

place_if_stands : (w : WaitTable) (o t : ℕ) → IsTable w → has t (waiters w (Some o)) ≡ true → place_of w t ≡ Some o
place_if_stands w o t table stands = by_place (place_of w t) (sym (table.at_its_place o t) ∙ stands) where
  by_place : (p : Option ℕ) → option_map_or (λ q. q == o) p false ≡ true → p ≡ Some o
  by_place None e = absurd (false≢true e)
  by_place (Some q) e = ap (λ n. Some n) (eqb-true q o e)

-- a wait at the place of an object is for that object
at_object : (k : Kernel) (o : ℕ) (on : On) (asks : Asks) → place on ≡ Some o → IsAskedAt k.objects k.queues k.semas on asks
    → (on ≡ Object o) × IsAskedOf k.objects k.queues k.semas o asks
at_object k o (Object p) asks there asked =
    let same = same_Some p o there in (ap (λ n. Object n) same, subst (λ n. IsAskedOf k.objects k.queues k.semas n asks) same asked.1)
at_object k o (Callbacks m) asks there asked = absurd asked
at_object k o Nowhere asks there asked = absurd (none-some o there)

pub waiter_is_one : WaiterIsOne
waiter_is_one k o t sound stands =
    by_wait (wait_of k.waits t) refl (sym (place_by_wait (pending k.waits t)) ∙ place_if_stands k.waits o t sound.formed.waits stands) where
      by_wait : (v : Option Wait) → wait_of k.waits t ≡ v → option_and_then (λ x. place x.on) v ≡ Some o → IsWaiter k o t
      by_wait None is there = absurd (none-some o there)
      by_wait (Some x) is there =
          let some : IsSome (wait_of k.waits t) = subst IsSome (sym is) refl in
          let asked = subst (λ (v : Option Wait). IfSome v (IsAsked k.objects k.queues k.semas)) is (sound.formed.asked t) in
          let at = at_object k o x.on x.asks there asked.at in
          record {
            wait = x;
            is = is;
            on = at.0;
            asks = at.1;
            live = waiter_is_thread [] k t sound some;
            rests = waiter_not_ready [] k t sound some;
          }

-- where nobody stands nobody waits
pub none_waits_here : (k : Kernel) (o t : ℕ) (x : Wait) → IsSound k → waiters_of k o ≡ [] → wait_of k.waits t ≡ Some x → x.on ≡ Object o → ⊥
none_waits_here k o t x sound none is on =
    false≢true (sym (ap (has t) none) ∙ stands_if_waits k.waits o t x sound.formed.waits is on)

-- no object is both a queue and a semaphore
pub not_both : (objects : List Slot) (o : ℕ) → is_of objects QueueKind o ≡ true → is_of objects SemaphoreKind o ≡ true → ⊥
not_both objects o queue sema = false≢true (sym (is_no_other_object QueueKind SemaphoreKind (slot objects o) queue refl) ∙ sema)

-- the first who waits
pub first_is_waiter : (k : Kernel) (o t : ℕ) (ts : List ℕ) → IsSound k → waiters_of k o ≡ t ∷ ts → IsWaiter k o t
first_is_waiter k o t ts sound is = waiter_is_one k o t sound (ap (has t) is ∙ or_left (t == t) (has t ts) (eq-eqb t t refl))

pub asks_by_wait : (test : Asks → Bool) (k : Kernel) (t : ℕ) (x : Wait) → wait_of k.waits t ≡ Some x → asks_so test k t ≡ test x.asks
asks_by_wait test k t x is = ap (λ (v : Option Wait). option_map_or (λ y. test y.asks) v false) is

abbrev first_in : (Asks → Bool) → Kernel → List ℕ → Option ℕ
first_in test k ts = option_and_then (λ t. cond (asks_so test k t) (Some t) None) (slice_get ts 0)

pub first_if_asks : (test : Asks → Bool) (k : Kernel) (o t : ℕ) (ts : List ℕ) (x : Wait) → waiters_of k o ≡ t ∷ ts → wait_of k.waits t ≡ Some x
    → test x.asks ≡ true → first_that test k o ≡ Some t
first_if_asks test k o t ts x is wait asks =
    ap (first_in test k) is ∙ cond-true (asks_so test k t) (Some t) None (asks_by_wait test k t x wait ∙ asks)

-- nobody waits where the first who waits would ask so
none_if_first : (test : Asks → Bool) (k : Kernel) (o : ℕ) → IsSound k → first_that test k o ≡ None
    → ((t : ℕ) (ts : List ℕ) (w : IsWaiter k o t) → waiters_of k o ≡ t ∷ ts → test w.wait.asks ≡ true) → waiters_of k o ≡ []
none_if_first test k o sound none asks = by_list (waiters_of k o) refl where
  by_list : (ts : List ℕ) → waiters_of k o ≡ ts → waiters_of k o ≡ []
  by_list [] is = is
  by_list (t ∷ ts) is =
      let w = first_is_waiter k o t ts sound is in
      absurd (none-some t (sym none ∙ first_if_asks test k o t ts w.wait is w.is (asks t ts w is)))

asks_for_message : (k : Kernel) (o : ℕ) (asks : Asks) → is_of k.objects QueueKind o ≡ true → room_of k.queues o ≢ 0
    → IsAskedOf k.objects k.queues k.semas o asks → asks_to_receive asks ≡ true
asks_for_message k o (Receive to) queue room asked = refl
asks_for_message k o (Send m front) queue room asked = absurd (room asked.1)
asks_for_message k o Instance queue room asked = absurd (not_both k.objects o queue asked.0)
asks_for_message k o Sleep queue room asked = absurd asked
asks_for_message k o Own queue room asked = absurd asked
asks_for_message k o (Flags want option to) queue room asked = absurd asked
asks_for_message k o (Bytes size to) queue room asked = absurd asked
asks_for_message k o (Block to) queue room asked = absurd asked
asks_for_message k o (Callback to) queue room asked = absurd asked

asks_for_room : (k : Kernel) (o : ℕ) (asks : Asks) → is_of k.objects QueueKind o ≡ true → messages_of k.queues o ≢ []
    → IsAskedOf k.objects k.queues k.semas o asks → asks_to_send asks ≡ true
asks_for_room k o (Receive to) queue some asked = absurd (some asked.1)
asks_for_room k o (Send m front) queue some asked = refl
asks_for_room k o Instance queue some asked = absurd (not_both k.objects o queue asked.0)
asks_for_room k o Sleep queue some asked = absurd asked
asks_for_room k o Own queue some asked = absurd asked
asks_for_room k o (Flags want option to) queue some asked = absurd asked
asks_for_room k o (Bytes size to) queue some asked = absurd asked
asks_for_room k o (Block to) queue some asked = absurd asked
asks_for_room k o (Callback to) queue some asked = absurd asked

asks_for_instance : (k : Kernel) (o : ℕ) (asks : Asks) → is_of k.objects SemaphoreKind o ≡ true → IsAskedOf k.objects k.queues k.semas o asks
    → count_of k.semas o ≡ 0
asks_for_instance k o (Receive to) sema asked = absurd (not_both k.objects o asked.0 sema)
asks_for_instance k o (Send m front) sema asked = absurd (not_both k.objects o asked.0 sema)
asks_for_instance k o Instance sema asked = asked.1
asks_for_instance k o Sleep sema asked = absurd asked
asks_for_instance k o Own sema asked = absurd asked
asks_for_instance k o (Flags want option to) sema asked = absurd asked
asks_for_instance k o (Bytes size to) sema asked = absurd asked
asks_for_instance k o (Block to) sema asked = absurd asked
asks_for_instance k o (Callback to) sema asked = absurd asked

-- what has room, or a message, is a queue
queue_if_room : (e : Option Queue) → 0 < room_in e → is_some e ≡ true
queue_if_room None room = absurd (omega arith)
queue_if_room (Some q) room = refl

queue_if_message : (e : Option Queue) → IsSome (slice_get (messages_in e) 0) → is_some e ≡ true
queue_if_message None some = absurd (false≢true some)
queue_if_message (Some q) some = refl

pub none_wait_for_room : NoneWaitForRoom
none_wait_for_room k o sound room none =
    let queue = sym (sound.formed.contents.queue o) ∙ queue_if_room (queue_of k.queues o) room in
    none_if_first asks_to_receive k o sound none (λ t ts w is. asks_for_message k o w.wait.asks queue (omega arith) w.asks)

pub none_wait_for_instance : NoneWaitForInstance
none_wait_for_instance k o sound sema some = by_list (waiters_of k o) refl where
  by_list : (ts : List ℕ) → waiters_of k o ≡ ts → waiters_of k o ≡ []
  by_list [] is = is
  by_list (t ∷ ts) is =
      let w = first_is_waiter k o t ts sound is in
      let zero = asks_for_instance k o w.wait.asks sema w.asks in
      absurd (omega arith)

-- nobody waits where there is a message and the first who waits is no sender
pub none_wait_with_message : (k : Kernel) (o : ℕ) → IsSound k → IsSome (message_at k.queues o 0) → first_that asks_to_send k o ≡ None → waiters_of k o ≡ []
none_wait_with_message k o sound some none =
    let queue = sym (sound.formed.contents.queue o) ∙ queue_if_message (queue_of k.queues o) some in
    let not_empty : messages_of k.queues o ≢ [] = λ empty. false≢true (sym (ap (λ (ms : List (List ℕ)). is_some (slice_get ms 0)) empty) ∙ some) in
    none_if_first asks_to_send k o sound none (λ t ts w is. asks_for_room k o w.wait.asks queue not_empty w.asks)

-- a waiter that asks so is among those who do
pub in_filter : (p : ℕ → Bool) (t : ℕ) (ts : List ℕ) → has t ts ≡ true → p t ≡ true → filter p ts ≢ []
in_filter p t ts is so none =
    let kept = any-filter_same (λ u. t == u) p true (λ u same. ap p (sym (eqb-true t u same)) ∙ so) ts in
    false≢true (sym (ap (has t) none) ∙ (kept ∙ is))

-- the first who waits and asks so
pub record IsFirst (test : Asks → Bool) (k : Kernel) (o t : ℕ) : Type 0 where
  pub waiter : IsWaiter k o t
  pub asks : test waiter.wait.asks ≡ true

pub first_is : (test : Asks → Bool) (k : Kernel) (o t : ℕ) → IsSound k → first_that test k o ≡ Some t → IsFirst test k o t
first_is test k o t sound is = by_list (waiters_of k o) refl where
  by_list : (ts : List ℕ) → waiters_of k o ≡ ts → IsFirst test k o t
  by_list [] list = absurd (none-some t (sym (ap (first_in test k) list) ∙ is))
  by_list (u ∷ us) list =
      let parts = cond_some (asks_so test k u) u t (sym (ap (first_in test k) list) ∙ is) in
      let waiter = subst (IsWaiter k o) parts.1 (first_is_waiter k o u us sound list) in
      record { waiter = waiter; asks = sym (asks_by_wait test k t waiter.wait waiter.is) ∙ (ap (asks_so test k) (sym parts.1) ∙ parts.0) }
