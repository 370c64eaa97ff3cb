-- The ECALL of a thread: its registers ask for a service, and a0 gets the answer.
use Rattle.std.specs.Prelude.{ℕ}
use Rattle.region_guard.specs.Memory.{Memory}
use Rattle.kernel_state.specs.Kernel.{thread}
use Rattle.kernel_state.specs.Outcome.{Outcome, answering}
use Rattle.kernel_state.specs.Registers.{arguments, number_asked, with_a0}
use Rattle.kernel_state.specs.declared.answer.Answer.{Answer}
use Rattle.kernel_state.specs.declared.answer.Answer.TheVariants.{Code, Value, Waits, Ended}
use Rattle.kernel_state.specs.declared.kernel.Kernel.{Kernel}
use Rattle.call_dispatch.specs.Services.{call_row}

-- a status or a value is the caller's a0; who waits gets it later, and who has ended never
unfoldable pub with_answer : Kernel → ℕ → Answer → Kernel
with_answer k t (Code c) = with_a0 k t c
with_answer k t (Value v) = with_a0 k t v
with_answer k t Waits = k
with_answer k t Ended = k

-- what the ECALL of a thread does: the row of what it asks for, and then the answer is put
unfoldable pub dispatched : Kernel → Memory → ℕ → Outcome
dispatched k g t =
    let h = (thread k t).hart in
    let o = call_row (number_asked h) k g t (arguments h) in
    answering (record o.change { kernel = with_answer o.change.kernel t o.answer }) o.answer
