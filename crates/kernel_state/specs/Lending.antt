-- A thread, or its registers, lent to be changed.
use Rattle.std.specs.Prelude.{ℕ}
use Rattle.std.specs.Borrow.{Lends, MutBor, Fml}
use Rattle.rv_core.specs.Hart.{HartState}
use Rattle.rv_core.specs.contracts.hart.Hart as hart_row
use Rattle.kernel_state.specs.Kernel.{thread, with_thread}
use Rattle.kernel_state.specs.declared.kernel.Kernel.{Kernel}
use Rattle.kernel_state.specs.declared.thread.Thread.{Thread}
use Rattle.kernel_state.specs.contracts.kernel.Kernel as kernel_row
use Rattle.kernel_state.specs.contracts.thread.Thread as thread_row

-- the kernel ends with the thread as it was left
abbrev pub LendsThread : MutBor Kernel → ℕ → MutBor Thread → Fml
LendsThread k t lent = Lends kernel_row.the_row thread_row.the_row k lent (with_thread k.now t)

-- the kernel ends with the thread's registers as they were left
abbrev pub LendsHart : MutBor Kernel → ℕ → MutBor HartState → Fml
LendsHart k t lent =
    Lends kernel_row.the_row hart_row.the_row k lent
    (λ now. with_thread k.now t (record (thread k.now t) { hart = now }))
