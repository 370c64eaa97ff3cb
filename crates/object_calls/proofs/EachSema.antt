-- The rows of the semaphore services keep what every row keeps.
use Rattle.std.proofs.Common.{◌≡◌, ℕ, ◌<◌, ◌==◌, true, false, [], ◌∷◌, All, Option, is_some, None, Some, refl, sym, ap, ◌∙◌, lit<, arith}
use Rattle.std.proofs.lemmas.Bool.{false≢true}
use Rattle.tx_types.specs.Code.{no_instance, semaphore_error}
use Rattle.tx_types.specs.declared.kind.Kind.TheVariants.{Semaphore}
use Rattle.call_arguments.specs.Names.{name_at}
use Rattle.msg_queues.specs.Entry.{Queue, words_in}
use Rattle.msg_queues.specs.Queues.{queue_of, words_of}
use Rattle.sync_objects.specs.Semas.{count_of}
use Rattle.object_grants.specs.Laws.{MakeLive}
use Rattle.object_grants.specs.Table.{slot}
use Rattle.region_guard.specs.Memory.{Memory}
use Rattle.region_guard.specs.declared.region.Access.TheVariants.{Store}
use Rattle.suspend_lists.specs.declared.wait.Asks.TheVariants.{Instance}
use Rattle.kernel_state.specs.Change.{quiet}
use Rattle.kernel_state.specs.ContentLaws.{semaphore_placed}
use Rattle.kernel_state.specs.Contents.{is_of, result_words}
use Rattle.kernel_state.specs.Kernel.{module_of}
use Rattle.kernel_state.specs.Objects.{first_waiter, wait_at, waiting}
use Rattle.kernel_state.specs.Outcome.{done}
use Rattle.kernel_state.specs.Range.{allowed, range}
use Rattle.kernel_state.specs.Registers.{arg}
use Rattle.kernel_state.specs.Row.{IsKept, IsRow, row, row_to}
use Rattle.kernel_state.specs.Serves.{Serves}
use Rattle.kernel_state.specs.Sound.{IsSound}
use Rattle.kernel_state.specs.Tests.{caller_refusal, named, owner_refusal, reserved}
use Rattle.kernel_state.specs.declared.kernel.Kernel.{Kernel}
use Rattle.object_calls.specs.SemaRows.{ceiling_refusal, getting, instance_put, instance_to, one_less, one_more, semaphore_ceiling_put_row, semaphore_create_row}
use Rattle.object_calls.specs.SemaRows.{semaphore_delete_row, semaphore_get_row, semaphore_info, semaphore_info_get_row, semaphore_prioritize_row, semaphore_put_row}
use Rattle.object_calls.specs.SemaRows.{semaphore_rows}
use Rattle.object_calls.proofs.Below.{used_below}
use Rattle.object_calls.proofs.FirstWaiter.{first_is_one}
use Rattle.object_calls.proofs.Parts.{◌and◌, Parts, all_rows, slots_alone, tables_stay}
use Rattle.object_calls.proofs.Senders.{no_queue_if_semaphore}
use Rattle.object_calls.proofs.Used.{named_is_live, named_is_used, reserved_is_used}

-- a semaphore has no queue, so nothing is written for who waits for it
no_words : (k : Kernel) (o : ℕ) → IsSound k → is_of k.objects Semaphore o ≡ true → words_of k.queues o ≡ 0
no_words k o sound is = by_entry (queue_of k.queues o) (sound.formed.contents.queue o ∙ no_queue_if_semaphore (slot k.objects o) is) where
  by_entry : (e : Option Queue) → is_some e ≡ false → words_in e ≡ 0
  by_entry None none = refl
  by_entry (Some q) some = absurd (false≢true (sym some))

module _ (parts : Parts) where
  waiting_is_kept : (k : Kernel) (g : Memory) (by o ticks : ℕ) → Serves k g → k.ready.run ≡ Some by → o < 256
      → IsKept [] k g by (waiting k g by o Instance ticks)
  unfolding waiting
  waiting_is_kept k g by o ticks serves runs below =
      parts.either [] k g by (ticks == 0) _ _ (parts.answered [] k g by no_instance)
      (parts.begins [] k g by (wait_at k by o Instance) ticks serves runs (omega (arith, below)))

  getting_is_kept : (k : Kernel) (g : Memory) (by o ticks : ℕ) → Serves k g → k.ready.run ≡ Some by → o < 256
      → IsKept [] k g by (getting k g by o ticks)
  unfolding getting
  getting_is_kept k g by o ticks serves runs below =
      parts.either [] k g by (count_of k.semas o == 0) _ _ (waiting_is_kept k g by o ticks serves runs below)
      (parts.done [] k g by (quiet (one_less k o) g) refl (λ calls. refl) (tables_stay parts.tables k (one_less k o) g by refl refl refl))

  put_is_kept : (k : Kernel) (g : Memory) (by o : ℕ) → Serves k g → k.ready.run ≡ Some by → is_of k.objects Semaphore o ≡ true
      → IsKept [] k g by (done (instance_put k g o))
  unfolding instance_put
  put_is_kept k g by o serves runs is = by_first (first_waiter k o) refl where
    by_first : (first : Option ℕ) → first_waiter k o ≡ first → IsKept [] k g by (done (instance_to first k g o))
    by_first None none =
        parts.done [] k g by (quiet (one_more k o) g) refl (λ calls. refl) (tables_stay parts.tables k (one_more k o) g by refl refl refl)
    by_first (Some t) first =
        let it = first_is_one parts.waiter k o t serves.sound first in
        let none = ap (result_words k.queues) it.on ∙ no_words k o serves.sound is in
        parts.ends [] k g by t it.wait [] serves runs it.is (sym none)

  semaphore_create_is_row : IsRow (row 0x30 semaphore_create_row)
  unfolding semaphore_create_row
  semaphore_create_is_row k g by a serves runs =
      parts.found [] k g by semaphore_error (reserved k by (arg a 0) Semaphore) _ (λ o at.
      parts.given_name [] k g by (name_at g (module_of k by) (arg a 1)) _ (λ name.
      let now = semaphore_placed k o name (arg a 2) in
      parts.done [] k g by (quiet now g) refl (λ calls. refl)
      (slots_alone parts.tables k now g by refl refl
      (record { call = Some (MakeLive o name); slots = refl; may = (tt, reserved_is_used k by (arg a 0) o Semaphore at) }))))

  semaphore_delete_is_row : IsRow (row 0x31 semaphore_delete_row)
  unfolding semaphore_delete_row
  semaphore_delete_is_row k g by a serves runs =
      parts.found [] k g by semaphore_error (named k by (arg a 0) Semaphore) _ (λ o at.
      parts.unless [] k g by (owner_refusal k by o) _ (λ own.
      parts.removed [] k g by o serves runs (named_is_used k by (arg a 0) o Semaphore at)))

  semaphore_get_is_row : IsRow (row 0x32 semaphore_get_row)
  unfolding semaphore_get_row
  semaphore_get_is_row k g by a serves runs =
      parts.found [] k g by semaphore_error (named k by (arg a 0) Semaphore) _ (λ o at.
      let below = used_below k.objects o serves.sound.formed.slots (named_is_used k by (arg a 0) o Semaphore at) in
      getting_is_kept k g by o (arg a 1) serves runs below)

  semaphore_put_is_row : IsRow (row 0x33 semaphore_put_row)
  unfolding semaphore_put_row
  semaphore_put_is_row k g by a serves runs =
      parts.found [] k g by semaphore_error (named k by (arg a 0) Semaphore) _ (λ o at.
      put_is_kept k g by o serves runs (named_is_live k by (arg a 0) o Semaphore at))

  semaphore_ceiling_put_is_row : IsRow (row 0x34 semaphore_ceiling_put_row)
  unfolding semaphore_ceiling_put_row
  semaphore_ceiling_put_is_row k g by a serves runs =
      parts.found [] k g by semaphore_error (named k by (arg a 0) Semaphore) _ (λ o at.
      parts.unless [] k g by (ceiling_refusal k o (arg a 1)) _ (λ free.
      put_is_kept k g by o serves runs (named_is_live k by (arg a 0) o Semaphore at)))

  semaphore_prioritize_is_row : IsRow (row 0x35 semaphore_prioritize_row)
  unfolding semaphore_prioritize_row
  semaphore_prioritize_is_row k g by a serves runs =
      parts.found [] k g by semaphore_error (named k by (arg a 0) Semaphore) _ (λ o at. parts.prioritized [] k g by o)

  semaphore_info_get_is_row : IsRow (row_to 1 8 0x36 semaphore_info_get_row)
  unfolding semaphore_info_get_row
  semaphore_info_get_is_row k g by a serves runs =
      let m = module_of k by in
      let r = allowed g m (range (arg a 1) 8 ∷ []) in
      parts.found r k g by semaphore_error (named k by (arg a 0) Semaphore) _ (λ o at.
      parts.unless r k g by (caller_refusal k g by Store (arg a 1) 8) _ (λ free.
      parts.written k g by k m (arg a 1) (semaphore_info k o) (lit< tt) free (λ calls. refl) (tables_stay parts.tables k k _ by refl refl refl)))

  pub semaphore_rows_are_rows : All IsRow semaphore_rows
  semaphore_rows_are_rows =
      all_rows semaphore_rows (
      semaphore_create_is_row
      and semaphore_delete_is_row
      and semaphore_get_is_row
      and semaphore_put_is_row
      and semaphore_ceiling_put_is_row
      and semaphore_prioritize_is_row
      and semaphore_info_get_is_row
      and tt)
