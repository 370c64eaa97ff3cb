-- Each row of the thread services keeps what every row keeps.
use Rattle.std.proofs.Common.{◌==◌, false, refl, inl, inr, not, nat_le, nat_lt, [], ◌∷◌, All, lit<}
use Rattle.std.proofs.lemmas.Bool.{not-false}
use Rattle.tx_types.specs.Code.{thread_error, priority_error, delete_error, resume_error, suspend_error, thresh_error, suspend_lifted, wait_abort_error}
use Rattle.tx_types.specs.Code.{not_done}
use Rattle.tx_types.specs.declared.kind.Kind.TheVariants.{Thread}
use Rattle.tx_types.specs.declared.state.State.TheVariants.{Completed, Terminated, Suspended}
use Rattle.tx_types.specs.declared.waits.End.TheVariants.{Aborted}
use Rattle.call_arguments.specs.Names.{name_at}
use Rattle.object_grants.specs.Table.{ref_of}
use Rattle.ready_maps.specs.Moves.{yielded}
use Rattle.region_guard.specs.declared.region.Access.TheVariants.{Load, Store}
use Rattle.kernel_state.specs.Change.{quiet}
use Rattle.kernel_state.specs.Kernel.{thread, module_of, removed_thread}
use Rattle.kernel_state.specs.Outcome.{refused}
use Rattle.kernel_state.specs.Range.{allowed, range}
use Rattle.kernel_state.specs.Registers.{arg}
use Rattle.kernel_state.specs.Row.{IsRow, row, row_to}
use Rattle.kernel_state.specs.Tests.{named, reserved, owner_refusal, caller_refusal}
use Rattle.kernel_state.specs.Thread.{is_over, is_state, is_waiting}
use Rattle.kernel_state.specs.ThreadChanges.{started, suspended, with_held, ended, reset}
use Rattle.kernel_state.specs.Waiting.{wait_begun, wait_ended}
use Rattle.kernel_state.specs.declared.answer.Answer.TheVariants.{Code, Value, Ended, Waits}
use Rattle.thread_calls.specs.Create.{block_at, block_refusal, created}
use Rattle.thread_calls.specs.Numbers.{with_user_threshold, with_user_priority, with_slice, thread_info}
use Rattle.thread_calls.specs.ThreadRows.{end_answer, sleep_of, creation, resumption, starting, threshold_change, priority_change, slice_change, thread_rows}
use Rattle.thread_calls.specs.ThreadRows.{thread_create_row, thread_delete_row, thread_terminate_row, thread_suspend_row, thread_resume_row, thread_sleep_row}
use Rattle.thread_calls.specs.ThreadRows.{thread_relinquish_row, thread_identify_row, thread_info_get_row, thread_preemption_change_row}
use Rattle.thread_calls.specs.ThreadRows.{thread_priority_change_row, thread_time_slice_change_row, thread_wait_abort_row, thread_reset_row}
use Rattle.thread_calls.specs.ThreadRows.{thread_complete_row}
use Rattle.thread_calls.proofs.Callers.{hart_kept, started_kept, suspended_kept, ended_kept, reset_kept, created_kept, created_memory, aborted_kept, passed}
use Rattle.thread_calls.proofs.Parts.{◌and◌, Parts, all_rows, end_is_no_refusal, ended_is_no_refusal, lifted_is_no_refusal, value_is_no_refusal}
use Rattle.thread_calls.proofs.Parts.{waits_is_no_refusal}
use Rattle.thread_calls.proofs.Slots.{named_live, removed_slots}
use Rattle.thread_calls.proofs.Tables.{aborted_tables, created_tables, ended_tables, slept_tables, slots_alone, suspended_tables, tables_stay}

module _ (parts : Parts) where
  thread_create_is_row : IsRow (row 0x10 thread_create_row)
  unfolding thread_create_row creation
  thread_create_is_row k g by a serves runs =
      parts.found [] k g by thread_error (reserved k by (arg a 0) Thread) _ (λ o at.
      parts.given_name [] k g by (name_at g (module_of k by) (arg a 1)) _ (λ name.
      parts.unless [] k g by (caller_refusal k g by Load (arg a 2) 32) _ (λ free.
      parts.unless [] k g by (block_refusal k g by (block_at g (arg a 2))) _ (λ right.
      parts.done [] k g by (created k g by o name (block_at g (arg a 2))) (created_memory k g by o name (block_at g (arg a 2)))
      (created_kept k g by (arg a 0) o name (block_at g (arg a 2)) at)
      (created_tables parts.tables k g by (arg a 0) o name (block_at g (arg a 2)) at)))))

  thread_delete_is_row : IsRow (row 0x11 thread_delete_row)
  unfolding thread_delete_row
  thread_delete_is_row k g by a serves runs =
      parts.found [] k g by thread_error (named k by (arg a 0) Thread) _ (λ t at.
      parts.unless [] k g by (owner_refusal k by t) _ (λ own.
      parts.unless [] k g by (refused (not (is_over (thread k t).state)) delete_error) _ (λ over.
      parts.done [] k g by (quiet (removed_thread k t) g) refl (λ calls. refl)
      (slots_alone parts.tables k _ _ by refl refl (removed_slots k by (arg a 0) t at)))))

  thread_terminate_is_row : IsRow (row 0x12 thread_terminate_row)
  unfolding thread_terminate_row
  thread_terminate_is_row k g by a serves runs =
      parts.found [] k g by thread_error (named k by (arg a 0) Thread) _ (λ t at.
      parts.changed [] k g by (ended k g t Terminated) (end_answer by t) (end_is_no_refusal by t) (parts.end_memory k g t Terminated)
      (λ calls. ended_kept parts.end_one k g by t Terminated)
      (ended_tables parts.tables k g by t Terminated (inr refl) (λ calls. named_live k by (arg a 0) t at)))

  thread_suspend_is_row : IsRow (row 0x13 thread_suspend_row)
  unfolding thread_suspend_row
  thread_suspend_is_row k g by a serves runs =
      parts.found [] k g by thread_error (named k by (arg a 0) Thread) _ (λ t at.
      parts.unless [] k g by (refused (is_over (thread k t).state) suspend_error) _ (λ runs.
      parts.done [] k g by (suspended k g t) refl (λ calls. suspended_kept k g by t) (suspended_tables parts.tables k g by t)))

  thread_resume_is_row : IsRow (row 0x14 thread_resume_row)
  unfolding thread_resume_row resumption starting
  thread_resume_is_row k g by a serves runs =
      parts.found [] k g by thread_error (named k by (arg a 0) Thread) _ (λ t at.
      parts.either [] k g by (thread k t).held _ _
      (parts.changed [] k g by (quiet (with_held k t false) g) (Code suspend_lifted) lifted_is_no_refusal refl
      (λ calls. hart_kept k by t (record (thread k t) { held = false }) refl)
      (tables_stay parts.tables k _ _ by refl refl refl))
      (parts.unless [] k g by (refused (not (is_state (thread k t).state Suspended)) resume_error) _ (λ rests.
      parts.done [] k g by (started k g t) refl (λ calls. started_kept k g by t) (tables_stay parts.tables k _ _ by refl refl refl))))

  thread_sleep_is_row : IsRow (row 0x15 thread_sleep_row)
  unfolding thread_sleep_row
  thread_sleep_is_row k g by a serves runs =
      parts.either [] k g by (arg a 0 == 0) _ _
      (parts.done [] k g by (quiet k g) refl (λ calls. refl) (tables_stay parts.tables k _ _ by refl refl refl))
      (parts.changed [] k g by (quiet (wait_begun k by (sleep_of k by) (arg a 0)) g) Waits waits_is_no_refusal refl (λ calls. hart_kept k by by _ refl)
      (slept_tables parts.tables k g by (arg a 0)))

  thread_relinquish_is_row : IsRow (row 0x16 thread_relinquish_row)
  unfolding thread_relinquish_row
  thread_relinquish_is_row k g by a serves runs =
      parts.done [] k g by (quiet (record k { ready = yielded k.ready }) g) refl (λ calls. refl) (tables_stay parts.tables k _ _ by refl refl refl)

  thread_identify_is_row : IsRow (row 0x17 thread_identify_row)
  unfolding thread_identify_row
  thread_identify_is_row k g by a serves runs =
      parts.changed [] k g by (quiet k g) (Value (ref_of k.objects by)) (value_is_no_refusal (ref_of k.objects by)) refl (λ calls. refl)
      (tables_stay parts.tables k _ _ by refl refl refl)

  thread_info_get_is_row : IsRow (row_to 1 32 0x18 thread_info_get_row)
  unfolding thread_info_get_row
  thread_info_get_is_row k g by a serves runs =
      let m = module_of k by in
      let r = allowed g m (range (arg a 1) 32 ∷ []) in
      parts.found r k g by thread_error (named k by (arg a 0) Thread) _ (λ t at.
      parts.unless r k g by (caller_refusal k g by Store (arg a 1) 32) _ (λ free.
      parts.written k g by k m (arg a 1) (thread_info k t) (lit< tt) free (λ calls. refl) (tables_stay parts.tables k _ _ by refl refl refl)))

  thread_preemption_change_is_row : IsRow (row_to 2 4 0x19 thread_preemption_change_row)
  unfolding thread_preemption_change_row threshold_change
  thread_preemption_change_is_row k g by a serves runs =
      let m = module_of k by in
      let r = allowed g m (range (arg a 2) 4 ∷ []) in
      parts.found r k g by thread_error (named k by (arg a 0) Thread) _ (λ t at.
      parts.unless r k g by (caller_refusal k g by Store (arg a 2) 4) _ (λ free.
      parts.unless r k g by (refused (nat_lt (thread k t).priority (arg a 1)) thresh_error) _ (λ right.
      parts.written k g by (with_user_threshold k t (arg a 1)) m (arg a 2) ((thread k t).threshold ∷ []) (lit< tt) free (λ calls. hart_kept k by t _ refl)
      (tables_stay parts.tables k _ _ by refl refl refl))))

  thread_priority_change_is_row : IsRow (row_to 2 4 0x1A thread_priority_change_row)
  unfolding thread_priority_change_row priority_change
  thread_priority_change_is_row k g by a serves runs =
      let m = module_of k by in
      let r = allowed g m (range (arg a 2) 4 ∷ []) in
      parts.found r k g by thread_error (named k by (arg a 0) Thread) _ (λ t at.
      parts.unless r k g by (caller_refusal k g by Store (arg a 2) 4) _ (λ free.
      parts.unless r k g by (refused (nat_le k.ready.levels (arg a 1)) priority_error) _ (λ right.
      parts.written k g by (with_user_priority k t (arg a 1)) m (arg a 2) ((thread k t).priority ∷ []) (lit< tt) free (λ calls. hart_kept k by t _ refl)
      (tables_stay parts.tables k _ _ by refl refl refl))))

  thread_time_slice_change_is_row : IsRow (row_to 2 4 0x1B thread_time_slice_change_row)
  unfolding thread_time_slice_change_row slice_change
  thread_time_slice_change_is_row k g by a serves runs =
      let m = module_of k by in
      let r = allowed g m (range (arg a 2) 4 ∷ []) in
      parts.found r k g by thread_error (named k by (arg a 0) Thread) _ (λ t at.
      parts.unless r k g by (caller_refusal k g by Store (arg a 2) 4) _ (λ free.
      parts.written k g by (with_slice k t (arg a 1)) m (arg a 2) ((thread k t).slice ∷ []) (lit< tt) free (λ calls. hart_kept k by t _ refl)
      (tables_stay parts.tables k _ _ by refl refl refl)))

  thread_wait_abort_is_row : IsRow (row 0x1C thread_wait_abort_row)
  unfolding thread_wait_abort_row
  thread_wait_abort_is_row k g by a serves runs =
      parts.found [] k g by thread_error (named k by (arg a 0) Thread) _ (λ t at.
      parts.unless [] k g by (refused (not (is_waiting (thread k t).state)) wait_abort_error) _ (λ waits.
      parts.done [] k g by (wait_ended k g t Aborted []) refl (aborted_kept k g by t wait_abort_error waits)
      (aborted_tables parts.tables k g by t (named_live k by (arg a 0) t at)
      (not-false (is_waiting (thread k t).state) (passed (not (is_waiting (thread k t).state)) wait_abort_error waits)))))

  thread_reset_is_row : IsRow (row 0x1D thread_reset_row)
  unfolding thread_reset_row
  thread_reset_is_row k g by a serves runs =
      parts.found [] k g by thread_error (named k by (arg a 0) Thread) _ (λ t at.
      parts.unless [] k g by (refused (not (is_over (thread k t).state)) not_done) _ (λ over.
      parts.done [] k g by (reset k g t) refl (reset_kept k g by t not_done over) (tables_stay parts.tables k _ _ by refl refl refl)))

  thread_complete_is_row : IsRow (row 0x1F thread_complete_row)
  unfolding thread_complete_row
  thread_complete_is_row k g by a serves runs =
      parts.changed [] k g by (ended k g by Completed) Ended ended_is_no_refusal (parts.end_memory k g by Completed)
      (λ calls. ended_kept parts.end_one k g by by Completed)
      (ended_tables parts.tables k g by by Completed (inl refl) (λ calls. calls.live))

  pub thread_rows_are_rows : All IsRow thread_rows
  thread_rows_are_rows =
      all_rows thread_rows (
      thread_create_is_row
      and thread_delete_is_row
      and thread_terminate_is_row
      and thread_suspend_is_row
      and thread_resume_is_row
      and thread_sleep_is_row
      and thread_relinquish_is_row
      and thread_identify_is_row
      and thread_info_get_is_row
      and thread_preemption_change_is_row
      and thread_priority_change_is_row
      and thread_time_slice_change_is_row
      and thread_wait_abort_is_row
      and thread_reset_is_row
      and thread_complete_is_row
      and tt)
