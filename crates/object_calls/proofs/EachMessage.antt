-- The rows of the services that send and receive messages keep what every row keeps.
use Rattle.std.proofs.Common.{◌≡◌, ℕ, ◌*◌, ◌<◌, ◌==◌, Bool, true, false, List, [], ◌∷◌, length, Option, None, Some, refl, sym, ap, ◌∙◌, subst, arith}
use Rattle.std.specs.Option.{option_map_or}
use Rattle.tx_types.specs.Code.{queue_error}
use Rattle.tx_types.specs.declared.kind.Kind.TheVariants.{Queue}
use Rattle.call_arguments.specs.Words.{with_words, words_at}
use Rattle.msg_queues.specs.Entry.{Queue as QueueEntry}
use Rattle.msg_queues.specs.Queues.{IsQueueTable, message_at, popped, words_of}
use Rattle.region_guard.specs.Memory.{Memory}
use Rattle.region_guard.specs.declared.region.Access.TheVariants.{Load, Store}
use Rattle.suspend_lists.specs.Waits.{wait_of}
use Rattle.suspend_lists.specs.declared.wait.Asks.{Asks}
use Rattle.suspend_lists.specs.declared.wait.Asks.TheVariants.{Receive, Send}
use Rattle.kernel_state.specs.Change.{quiet}
use Rattle.kernel_state.specs.Contents.{code_of, entered, put, result_words}
use Rattle.kernel_state.specs.Kernel.{module_of}
use Rattle.kernel_state.specs.Objects.{asks_to_receive, asks_to_send, first_that, wait_at, waiting}
use Rattle.kernel_state.specs.Outcome.{done, found, unless}
use Rattle.kernel_state.specs.Range.{Range, allowed, range}
use Rattle.kernel_state.specs.Registers.{arg}
use Rattle.kernel_state.specs.Row.{IsKept, IsRow, row}
use Rattle.kernel_state.specs.Serves.{Serves}
use Rattle.kernel_state.specs.Tests.{caller_refusal, named}
use Rattle.kernel_state.specs.declared.kernel.Kernel.{Kernel}
use Rattle.object_calls.specs.QueueRows.{queue_front_send_row, queue_receive_row, queue_send_row, received, received_at, receiving, receiving_from, refilled}
use Rattle.object_calls.specs.QueueRows.{send_row, sending, sent, sent_to, takes_message}
use Rattle.object_calls.proofs.Below.{used_below}
use Rattle.object_calls.proofs.FirstWaiter.{first_asks}
use Rattle.object_calls.proofs.Parts.{Parts, tables_stay}
use Rattle.object_calls.proofs.QueueSizes.{first_has_words, first_is_whole}
use Rattle.object_calls.proofs.SenderEnds.{sender_end_is_kept}
use Rattle.object_calls.proofs.Used.{named_is_used}

module _ (parts : Parts) where
  -- the caller is refused, or waits for the queue
  waiting_is_kept : (r : List Range) (k : Kernel) (g : Memory) (by o : ℕ) (asks : Asks) (ticks : ℕ) → Serves k g → k.ready.run ≡ Some by → o < 256
      → IsKept r k g by (waiting k g by o asks ticks)
  unfolding waiting
  waiting_is_kept r k g by o asks ticks serves runs below =
      parts.either r k g by (ticks == 0) _ _ (parts.answered r k g by (code_of asks))
      (parts.begins r k g by (wait_at k by o asks) ticks serves runs (omega (arith, below)))

  sent_is_kept : (k : Kernel) (g : Memory) (by o : ℕ) (m : List ℕ) (front : Bool) → Serves k g → k.ready.run ≡ Some by
      → length m ≡ words_of k.queues o → IsKept [] k g by (done (sent k g o m front))
  unfolding sent
  sent_is_kept k g by o m front serves runs whole = by_first (first_that asks_to_receive k o) refl where
    by_first : (first : Option ℕ) → first_that asks_to_receive k o ≡ first → IsKept [] k g by (done (sent_to first k g o m front))
    by_first None none =
        let now = record k { queues = put k.queues o m front } in
        parts.done [] k g by (quiet now g) refl (λ calls. refl) (tables_stay parts.tables k now g by refl refl refl)
    by_first (Some t) first =
        let it = (first_asks parts.waiter asks_to_receive k o t serves.sound first).waiter in
        parts.ends [] k g by t it.wait m serves runs it.is (whole ∙ sym (ap (result_words k.queues) it.on))

  send_is_row : (front : Bool) → IsRow (row 0x22 (send_row front))
  unfolding sending
  send_is_row front k g by a serves runs =
      parts.found [] k g by queue_error (named k by (arg a 0) Queue) _ (λ o at.
      parts.unless [] k g by (caller_refusal k g by Load (arg a 1) (4 * words_of k.queues o)) _ (λ free.
      let m = words_at g (arg a 1) (words_of k.queues o) in
      let below = used_below k.objects o serves.sound.formed.slots (named_is_used k by (arg a 0) o Queue at) in
      parts.either [] k g by (takes_message k o) _ _
      (sent_is_kept k g by o m front serves runs (parts.as_many g (arg a 1) (words_of k.queues o)))
      (waiting_is_kept [] k g by o (Send m front) (arg a 2) serves runs below)))

  pub queue_send_is_row : IsRow (row 0x22 queue_send_row)
  unfolding queue_send_row
  queue_send_is_row k g by a serves runs = send_is_row false k g by a serves runs

  pub queue_front_send_is_row : IsRow (row 0x23 queue_front_send_row)
  unfolding queue_front_send_row
  queue_front_send_is_row k g by a serves runs = send_is_row true k g by a serves runs

  -- where a message is written
  abbrev place_of_message : Kernel → Memory → ℕ → ℕ → ℕ → List Range
  place_of_message k g by to n = allowed g (module_of k by) (range to (4 * n) ∷ [])

  received_is_kept : (k : Kernel) (g : Memory) (by o to : ℕ) (m : List ℕ) → Serves k g → k.ready.run ≡ Some by
      → message_at k.queues o 0 ≡ Some m → caller_refusal k g by Store to (4 * length m) ≡ None
      → IsKept (place_of_message k g by to (length m)) k g by (done (received k g o to m))
  unfolding received
  received_is_kept k g by o to m serves runs is free = by_first (first_that asks_to_send k o) refl where
    table : IsQueueTable k.queues
    table = serves.sound.formed.contents.queue_table

    some : 0 < length m
    some = subst (λ n. 0 < n) (sym (first_is_whole k.queues o m table is)) (first_has_words k.queues o m table is)

    written : (queues : List (Option QueueEntry)) → IsKept (place_of_message k g by to (length m)) k g by
        (done (quiet (record k { queues = queues }) (with_words g to m)))
    written queues =
        let now = record k { queues = queues } in
        parts.written k g by now (module_of k by) to m some free (λ calls. refl) (tables_stay parts.tables k now (with_words g to m) by refl refl refl)

    by_first : (first : Option ℕ) → first_that asks_to_send k o ≡ first → IsKept (place_of_message k g by to (length m)) k g by
        (done (refilled first (record k { queues = popped k.queues o }) (with_words g to m) o))
    by_first None none = written (popped k.queues o)
    by_first (Some t) first =
        let it = (first_asks parts.waiter asks_to_send k o t serves.sound first).waiter in
        let queues = entered (popped k.queues o) o (wait_of k.waits t) in
        sender_end_is_kept parts.ends (place_of_message k g by to (length m)) k queues g (with_words g to m) by t it.wait
        (parts.refill k g o t serves first) runs it.is (written queues).alone

  receiving_is_kept : (k : Kernel) (g : Memory) (by o to ticks : ℕ) → Serves k g → k.ready.run ≡ Some by → o < 256
      → caller_refusal k g by Store to (4 * words_of k.queues o) ≡ None
      → IsKept (place_of_message k g by to (words_of k.queues o)) k g by (receiving k g by o to ticks)
  unfolding receiving
  receiving_is_kept k g by o to ticks serves runs below free = by_message (message_at k.queues o 0) refl where
    r : List Range
    r = place_of_message k g by to (words_of k.queues o)

    by_message : (first : Option (List ℕ)) → message_at k.queues o 0 ≡ first → IsKept r k g by (receiving_from first k g by o to ticks)
    by_message None none = waiting_is_kept r k g by o (Receive to) ticks serves runs below
    by_message (Some m) is =
        let whole = first_is_whole k.queues o m serves.sound.formed.contents.queue_table is in
        subst (λ n. IsKept (place_of_message k g by to n) k g by (done (received k g o to m))) whole
        (received_is_kept k g by o to m serves runs is (subst (λ n. caller_refusal k g by Store to (4 * n) ≡ None) (sym whole) free))

  pub queue_receive_is_row : IsRow (record { number = 0x24; does = queue_receive_row; writes = received_at })
  unfolding queue_receive_row
  queue_receive_is_row k g by a serves runs = by_named (named k by (arg a 0) Queue) refl where
    by_named : (o : Option ℕ) → named k by (arg a 0) Queue ≡ o
        → IsKept (allowed g (module_of k by) (option_map_or (λ n. range (arg a 1) (4 * words_of k.queues n) ∷ []) o [])) k g by
        (found k g queue_error o (λ n.
        unless k g (caller_refusal k g by Store (arg a 1) (4 * words_of k.queues n)) (receiving k g by n (arg a 1) (arg a 2))))
    by_named None none = parts.answered [] k g by queue_error
    by_named (Some o) at =
        let below = used_below k.objects o serves.sound.formed.slots (named_is_used k by (arg a 0) o Queue at) in
        parts.unless (place_of_message k g by (arg a 1) (words_of k.queues o)) k g by
        (caller_refusal k g by Store (arg a 1) (4 * words_of k.queues o)) _
        (λ free. receiving_is_kept k g by o (arg a 1) (arg a 2) serves runs below free)
