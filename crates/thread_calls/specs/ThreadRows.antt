-- The thread services, a row each: the refusals from left to right, then the change (ThreadX User
-- Guide, "Thread Services").
use Rattle.std.specs.Prelude.{ℕ, ◌==◌, false, not, nat_le, nat_lt, List, [], ◌∷◌, if◌then◌else◌}
use Rattle.tx_types.specs.Code.{success, thread_error, priority_error, delete_error, resume_error}
use Rattle.tx_types.specs.Code.{suspend_error, thresh_error, suspend_lifted, wait_abort_error}
use Rattle.tx_types.specs.Code.{not_done}
use Rattle.tx_types.specs.declared.kind.Kind.TheVariants.{Thread}
use Rattle.tx_types.specs.declared.state.State.TheVariants.{Completed, Terminated, Suspended}
use Rattle.call_arguments.specs.Names.{name_at}
use Rattle.call_arguments.specs.Words.{with_word, with_words}
use Rattle.object_grants.specs.Table.{ref_of}
use Rattle.ready_maps.specs.Moves.{yielded}
use Rattle.region_guard.specs.Memory.{Memory}
use Rattle.region_guard.specs.declared.region.Access.TheVariants.{Load, Store}
use Rattle.suspend_lists.specs.declared.wait.Asks.TheVariants.{Sleep}
use Rattle.suspend_lists.specs.declared.wait.On.TheVariants.{Sleep as Nowhere}
use Rattle.suspend_lists.specs.declared.wait.Wait.{Wait}
use Rattle.tx_types.specs.declared.waits.End.TheVariants.{Aborted}
use Rattle.kernel_state.specs.Kernel.{thread, module_of, removed_thread, effective_priority}
use Rattle.kernel_state.specs.Change.{quiet}
use Rattle.kernel_state.specs.Outcome.{Outcome, answering, answered, done, unless, found, given}
use Rattle.kernel_state.specs.Outcome.{refused}
use Rattle.kernel_state.specs.Registers.{arg}
use Rattle.kernel_state.specs.Row.{Row, row, row_to}
use Rattle.kernel_state.specs.Tests.{named, reserved, owner_refusal, caller_refusal}
use Rattle.kernel_state.specs.Thread.{is_over, is_state, is_waiting}
use Rattle.kernel_state.specs.ThreadChanges.{started, suspended, with_held, ended, reset}
use Rattle.kernel_state.specs.Waiting.{wait_begun, wait_ended}
use Rattle.kernel_state.specs.declared.answer.Answer.TheVariants.{Value, Ended, Waits}
use Rattle.kernel_state.specs.declared.answer.Answer.{Answer}
use Rattle.kernel_state.specs.declared.answer.Answer.TheVariants.{Code}
use Rattle.kernel_state.specs.declared.kernel.Kernel.{Kernel}
use Rattle.thread_calls.specs.Create.{block_at, block_refusal, created}
use Rattle.thread_calls.specs.Numbers.{with_user_threshold, with_user_priority, with_slice}
use Rattle.thread_calls.specs.Numbers.{thread_info}

-- the caller's own thread, or another one, ends; who ends itself gets no answer
abbrev pub end_answer : ℕ → ℕ → Answer
end_answer by t = if t == by then Ended else Code success

-- a thread is made of the block at an address
unfoldable pub creation : Kernel → Memory → ℕ → ℕ → List ℕ → ℕ → Outcome
creation k g by o name x =
    unless k g (block_refusal k g by (block_at g x)) (done (created k g by o name (block_at g x)))

unfoldable pub thread_create_row : Kernel → Memory → ℕ → List ℕ → Outcome
thread_create_row k g by a =
    found k g thread_error (reserved k by (arg a 0) Thread) (λ o.
    given k g (name_at g (module_of k by) (arg a 1)) (λ name.
    unless k g (caller_refusal k g by Load (arg a 2) 32) (creation k g by o name (arg a 2))))

unfoldable pub thread_delete_row : Kernel → Memory → ℕ → List ℕ → Outcome
thread_delete_row k g by a =
    found k g thread_error (named k by (arg a 0) Thread) (λ t.
    unless k g (owner_refusal k by t)
    (unless k g (refused (not (is_over (thread k t).state)) delete_error)
    (done (quiet (removed_thread k t) g))))

unfoldable pub thread_terminate_row : Kernel → Memory → ℕ → List ℕ → Outcome
thread_terminate_row k g by a =
    found k g thread_error (named k by (arg a 0) Thread)
    (λ t. answering (ended k g t Terminated) (end_answer by t))

unfoldable pub thread_suspend_row : Kernel → Memory → ℕ → List ℕ → Outcome
thread_suspend_row k g by a =
    found k g thread_error (named k by (arg a 0) Thread) (λ t.
    unless k g (refused (is_over (thread k t).state) suspend_error) (done (suspended k g t)))

-- a suspended thread is started
unfoldable pub starting : Kernel → Memory → ℕ → Outcome
starting k g t =
    unless k g (refused (not (is_state (thread k t).state Suspended)) resume_error)
    (done (started k g t))

-- a suspension that is held is lifted; else a suspended thread is started
unfoldable pub resumption : Kernel → Memory → ℕ → Outcome
resumption k g t =
    if (thread k t).held then answered (with_held k t false) g suspend_lifted else starting k g t

unfoldable pub thread_resume_row : Kernel → Memory → ℕ → List ℕ → Outcome
thread_resume_row k g by a = found k g thread_error (named k by (arg a 0) Thread) (resumption k g)

unfoldable pub thread_relinquish_row : Kernel → Memory → ℕ → List ℕ → Outcome
thread_relinquish_row k g by a = done (quiet (record k { ready = yielded k.ready }) g)

unfoldable pub thread_identify_row : Kernel → Memory → ℕ → List ℕ → Outcome
thread_identify_row k g by a = answering (quiet k g) (Value (ref_of k.objects by))

unfoldable pub thread_info_get_row : Kernel → Memory → ℕ → List ℕ → Outcome
thread_info_get_row k g by a =
    found k g thread_error (named k by (arg a 0) Thread) (λ t.
    unless k g (caller_refusal k g by Store (arg a 1) 32)
    (done (quiet k (with_words g (arg a 1) (thread_info k t)))))

-- a number of a thread is changed, and the old one written
unfoldable pub threshold_change : Kernel → Memory → ℕ → ℕ → ℕ → Outcome
threshold_change k g t new old =
    unless k g (refused (nat_lt (thread k t).priority new) thresh_error)
    (done (quiet (with_user_threshold k t new) (with_word g old (thread k t).threshold)))

unfoldable pub priority_change : Kernel → Memory → ℕ → ℕ → ℕ → Outcome
priority_change k g t new old =
    unless k g (refused (nat_le k.ready.levels new) priority_error)
    (done (quiet (with_user_priority k t new) (with_word g old (thread k t).priority)))

unfoldable pub slice_change : Kernel → Memory → ℕ → ℕ → ℕ → Outcome
slice_change k g t new old =
    done (quiet (with_slice k t new) (with_word g old (thread k t).slice))

unfoldable pub thread_preemption_change_row : Kernel → Memory → ℕ → List ℕ → Outcome
thread_preemption_change_row k g by a =
    found k g thread_error (named k by (arg a 0) Thread) (λ t.
    unless k g (caller_refusal k g by Store (arg a 2) 4)
    (threshold_change k g t (arg a 1) (arg a 2)))

unfoldable pub thread_priority_change_row : Kernel → Memory → ℕ → List ℕ → Outcome
thread_priority_change_row k g by a =
    found k g thread_error (named k by (arg a 0) Thread) (λ t.
    unless k g (caller_refusal k g by Store (arg a 2) 4)
    (priority_change k g t (arg a 1) (arg a 2)))

unfoldable pub thread_time_slice_change_row : Kernel → Memory → ℕ → List ℕ → Outcome
thread_time_slice_change_row k g by a =
    found k g thread_error (named k by (arg a 0) Thread) (λ t.
    unless k g (caller_refusal k g by Store (arg a 2) 4) (slice_change k g t (arg a 1) (arg a 2)))

unfoldable pub thread_reset_row : Kernel → Memory → ℕ → List ℕ → Outcome
thread_reset_row k g by a =
    found k g thread_error (named k by (arg a 0) Thread) (λ t.
    unless k g (refused (not (is_over (thread k t).state)) not_done) (done (reset k g t)))

unfoldable pub thread_complete_row : Kernel → Memory → ℕ → List ℕ → Outcome
thread_complete_row k g by a = answering (ended k g by Completed) Ended

-- the sleep of a caller: as its time is up, it answers SUCCESS
abbrev pub sleep_of : Kernel → ℕ → Wait
sleep_of k by = record {
  on = Nowhere;
  asks = Sleep;
  code = success;
  asked = effective_priority k by;
}

unfoldable pub thread_sleep_row : Kernel → Memory → ℕ → List ℕ → Outcome
thread_sleep_row k g by a =
    if arg a 0 == 0 then done (quiet k g)
    else answering (quiet (wait_begun k by (sleep_of k by) (arg a 0)) g) Waits

unfoldable pub thread_wait_abort_row : Kernel → Memory → ℕ → List ℕ → Outcome
thread_wait_abort_row k g by a =
    found k g thread_error (named k by (arg a 0) Thread) (λ t.
    unless k g (refused (not (is_waiting (thread k t).state)) wait_abort_error)
    (done (wait_ended k g t Aborted [])))

-- each by its number in a7, which is this board's own, with what it does and where it writes
abbrev pub thread_rows : List Row
thread_rows =
    row 0x10 thread_create_row
    ∷ row 0x11 thread_delete_row
    ∷ row 0x12 thread_terminate_row
    ∷ row 0x13 thread_suspend_row
    ∷ row 0x14 thread_resume_row
    ∷ row 0x15 thread_sleep_row
    ∷ row 0x16 thread_relinquish_row
    ∷ row 0x17 thread_identify_row
    ∷ row_to 1 32 0x18 thread_info_get_row
    ∷ row_to 2 4 0x19 thread_preemption_change_row
    ∷ row_to 2 4 0x1A thread_priority_change_row
    ∷ row_to 2 4 0x1B thread_time_slice_change_row
    ∷ row 0x1C thread_wait_abort_row
    ∷ row 0x1D thread_reset_row
    ∷ row 0x1F thread_complete_row
    ∷ []
