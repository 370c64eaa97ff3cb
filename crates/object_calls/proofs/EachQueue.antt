-- The rows of the services that create, empty, order, read and delete queues keep what every row keeps.
use Rattle.std.proofs.Common.{◌≡◌, ℕ, ◌*◌, ◌/◌, false, List, [], ◌∷◌, is_some, None, Some, refl, sym, ap, ◌∙◌, subst, lit<, arith}
use Rattle.std.proofs.lemmas.Bool.{cond_both, false≢true, false_from_ne_true}
use Rattle.tx_types.specs.Code.{queue_error}
use Rattle.tx_types.specs.declared.kind.Kind.TheVariants.{Queue}
use Rattle.tx_types.specs.declared.waits.End.TheVariants.{Satisfied}
use Rattle.call_arguments.specs.Names.{name_at}
use Rattle.msg_queues.specs.Queues.{flushed}
use Rattle.object_grants.specs.Laws.{MakeLive}
use Rattle.region_guard.specs.Memory.{Memory}
use Rattle.region_guard.specs.declared.region.Access.TheVariants.{Store}
use Rattle.suspend_lists.specs.ThreadList.{has}
use Rattle.kernel_state.specs.Change.{Change, quiet}
use Rattle.kernel_state.specs.ContentLaws.{queue_placed}
use Rattle.kernel_state.specs.Kernel.{module_of, thread}
use Rattle.kernel_state.specs.ObjectLaws.{EndsByCalls}
use Rattle.kernel_state.specs.Objects.{all_ended, asks_to_send, first_that, waiters_of}
use Rattle.kernel_state.specs.Range.{allowed, range}
use Rattle.kernel_state.specs.Registers.{arg}
use Rattle.kernel_state.specs.Row.{IsRow, KeepsCaller, KeepsTables, row, row_to}
use Rattle.kernel_state.specs.Serves.{Serves}
use Rattle.kernel_state.specs.Tests.{caller_refusal, named, owner_refusal, reserved}
use Rattle.kernel_state.specs.WaitCalls.{CallsWaits}
use Rattle.kernel_state.specs.declared.kernel.Kernel.{Kernel}
use Rattle.kernel_state.specs.declared.thread.Thread.{Thread}
use Rattle.object_calls.specs.QueueRows.{emptied, queue_create_row, queue_delete_row, queue_flush_row, queue_info, queue_info_get_row, queue_prioritize_row, senders, sizes_refusal}
use Rattle.object_calls.proofs.Parts.{Parts, slots_alone, tables_stay}
use Rattle.object_calls.proofs.Senders.{satisfied_is_not_gone, senders_are, senders_have_no_result}
use Rattle.object_calls.proofs.Used.{named_is_used, reserved_is_used}

module _ (parts : Parts) where
  -- what holds of all who wait for an object, and of none, holds of those who wait to send
  by_senders : (k : Kernel) (g : Memory) (o : ℕ) (P : List ℕ → Type 0) → Serves k g → P (waiters_of k o) → P [] → P (senders k o)
  by_senders k g o P serves all none =
      let first = first_that asks_to_send k o in
      subst P (sym (senders_are parts.waiter k o first (is_some first) serves.sound refl refl))
      (cond_both (is_some first) (waiters_of k o) [] P (λ some. all) (λ no. none))

  -- who runs waits for nothing
  caller_waits_not : (k : Kernel) (g : Memory) (by o : ℕ) → Serves k g → k.ready.run ≡ Some by → has by (waiters_of k o) ≡ false
  caller_waits_not k g by o serves runs =
      false_from_ne_true (has by (waiters_of k o)) (λ there.
      false≢true (sym (parts.waiter k o by serves.sound there).rests ∙ parts.running_is_ready k by serves.sound runs))

  -- the waits of the senders end
  abbrev sent_ends : Kernel → Memory → ℕ → Change
  sent_ends k g o = all_ended Satisfied (senders k o) k g

  senders_end_by_calls : (k : Kernel) (g : Memory) (o : ℕ) → Serves k g → EndsByCalls k (sent_ends k g o)
  senders_end_by_calls k g o serves =
      by_senders k g o (λ ts. EndsByCalls k (all_ended Satisfied ts k g)) serves
      (parts.all_ends.calls k g o Satisfied serves.sound satisfied_is_not_gone)
      (record {
        calls = parts.all_ends.left k (quiet k g) (record { waits = refl; wheel = refl; ends = refl });
        only_ends = record { numbers = λ t n is. is; over = λ t is. is };
      })

  emptied_calls_waits : (k : Kernel) (g : Memory) (o : ℕ) → Serves k g → CallsWaits k (emptied k g o)
  unfolding emptied
  emptied_calls_waits k g o serves =
      let c = sent_ends k g o in
      let d = quiet (record c.kernel { queues = flushed c.kernel.queues o }) c.memory in
      let first = senders_end_by_calls k g o serves in
      parts.all_ends.followed k c d first.calls first.only_ends (parts.all_ends.left c.kernel d (record { waits = refl; wheel = refl; ends = refl }))
      (record { numbers = λ t n is. is; over = λ t is. is })

  emptied_tables : (k : Kernel) (g : Memory) (by o : ℕ) → Serves k g → KeepsTables k by (emptied k g o)
  unfolding emptied
  emptied_tables k g by o serves =
      let raised = parts.all_ends.counts k g Satisfied (senders k o) in
      record {
        slots = record { call = None; slots = ap (λ (j : Kernel). j.objects) (parts.all_ends.kernel k g Satisfied (senders k o)); may = tt };
        waits = λ sound caller. emptied_calls_waits k g o serves;
        counts = record { begun = omega (arith, raised.begun); armings = omega (arith, raised.armings); ticks = omega (arith, raised.ticks) };
      }

  emptied_caller : (k : Kernel) (g : Memory) (by o : ℕ) → Serves k g → k.ready.run ≡ Some by → KeepsCaller k by (emptied k g o).kernel
  unfolding emptied
  emptied_caller k g by o serves runs caller =
      by_senders k g o (λ ts. (thread (all_ended Satisfied ts k g).kernel by).hart ≡ (thread k by).hart) serves
      (ap (λ (x : Thread). x.hart)
      ((parts.all_ends.threads k g o Satisfied serves.sound satisfied_is_not_gone).others by (caller_waits_not k g by o serves runs)))
      refl

  emptied_memory : (k : Kernel) (g : Memory) (o : ℕ) → (emptied k g o).memory ≡ g
  unfolding emptied
  emptied_memory k g o = parts.all_ends.memory k g Satisfied (senders k o) (senders_have_no_result k o)

  pub queue_create_is_row : IsRow (row 0x20 queue_create_row)
  unfolding queue_create_row
  queue_create_is_row k g by a serves runs =
      parts.found [] k g by queue_error (reserved k by (arg a 0) Queue) _ (λ o at.
      parts.given_name [] k g by (name_at g (module_of k by) (arg a 1)) _ (λ name.
      parts.unless [] k g by (caller_refusal k g by Store (arg a 3) (arg a 4)) _ (λ free.
      parts.unless [] k g by (sizes_refusal (arg a 2) (arg a 4)) _ (λ right.
      let now = queue_placed k o name (arg a 2) (arg a 4 / (4 * arg a 2)) in
      parts.done [] k g by (quiet now g) refl (λ calls. refl)
      (slots_alone parts.tables k now g by refl refl
      (record { call = Some (MakeLive o name); slots = refl; may = (tt, reserved_is_used k by (arg a 0) o Queue at) }))))))

  pub queue_delete_is_row : IsRow (row 0x21 queue_delete_row)
  unfolding queue_delete_row
  queue_delete_is_row k g by a serves runs =
      parts.found [] k g by queue_error (named k by (arg a 0) Queue) _ (λ o at.
      parts.unless [] k g by (owner_refusal k by o) _ (λ own.
      parts.removed [] k g by o serves runs (named_is_used k by (arg a 0) o Queue at)))

  pub queue_flush_is_row : IsRow (row 0x25 queue_flush_row)
  unfolding queue_flush_row
  queue_flush_is_row k g by a serves runs =
      parts.found [] k g by queue_error (named k by (arg a 0) Queue) _ (λ o at.
      parts.done [] k g by (emptied k g o) (emptied_memory k g o) (emptied_caller k g by o serves runs) (emptied_tables k g by o serves))

  pub queue_prioritize_is_row : IsRow (row 0x26 queue_prioritize_row)
  unfolding queue_prioritize_row
  queue_prioritize_is_row k g by a serves runs =
      parts.found [] k g by queue_error (named k by (arg a 0) Queue) _ (λ o at. parts.prioritized [] k g by o)

  pub queue_info_get_is_row : IsRow (row_to 1 12 0x27 queue_info_get_row)
  unfolding queue_info_get_row
  queue_info_get_is_row k g by a serves runs =
      let m = module_of k by in
      let r = allowed g m (range (arg a 1) 12 ∷ []) in
      parts.found r k g by queue_error (named k by (arg a 0) Queue) _ (λ o at.
      parts.unless r k g by (caller_refusal k g by Store (arg a 1) 12) _ (λ free.
      parts.written k g by k m (arg a 1) (queue_info k o) (lit< tt) free (λ calls. refl) (tables_stay parts.tables k k _ by refl refl refl)))
