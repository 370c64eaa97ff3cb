-- An entry of the table of threads that is lent to be changed.
use Rattle.std.specs.Prelude.{ℕ, List, slice_set}
use Rattle.std.specs.Borrow.{Lends, MutBor, Fml}
use Rattle.kernel_state.specs.declared.thread.Thread.{Thread}
use Rattle.kernel_state.specs.contracts.thread.Thread as thread_row
use Rattle.kernel_state.specs.contracts.threads.Threads as threads_row

-- the table ends with the entry as it was left
abbrev pub LendsEntry : MutBor (List Thread) → ℕ → MutBor Thread → Fml
LendsEntry ts t lent = Lends threads_row.the_row thread_row.the_row ts lent (slice_set ts.now t)
