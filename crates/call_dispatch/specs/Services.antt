-- The rows of all services, a list from each crate of calls, and what a call of a number does.
use Rattle.std.specs.Prelude.{ℕ, Bool, true, List, [], ◌∷◌, ◌++◌, Option, None, Some, not, ◌&&◌}
use Rattle.ready_maps.specs.Sched.{has}
use Rattle.region_guard.specs.Memory.{Memory}
use Rattle.kernel_state.specs.Kernel.{module_of}
use Rattle.kernel_state.specs.Outcome.{Outcome}
use Rattle.kernel_state.specs.Range.{Range, allowed}
use Rattle.kernel_state.specs.Results.{change_ranges}
use Rattle.kernel_state.specs.Row.{Row, called, row_of}
use Rattle.kernel_state.specs.declared.kernel.Kernel.{Kernel}
use Rattle.object_calls.specs.Services.{rows as object_rows}
use Rattle.thread_calls.specs.Services.{rows as thread_rows}

abbrev pub rows : List Row
rows = thread_rows ++ object_rows

-- the row of a number, where there is one
unfoldable pub row_asked : ℕ → Option Row
row_asked n = row_of n rows

-- what a call of a number does
unfoldable pub call_row : ℕ → Kernel → Memory → ℕ → List ℕ → Outcome
call_row n k g by a = called (row_asked n) k g by a

-- where it writes its result: where its row says, as far as the caller's module may store there
abbrev pub row_writes : Option Row → Kernel → ℕ → List ℕ → List Range
row_writes None k by a = []
row_writes (Some r) k by a = r.writes k by a

abbrev pub call_result : ℕ → Kernel → Memory → ℕ → List ℕ → List Range
call_result n k g by a = allowed g (module_of k by) (row_writes (row_asked n) k by a)

-- where it writes at all: there, and in the results of the waits that it ends
abbrev pub call_ranges : ℕ → Kernel → Memory → ℕ → List ℕ → List Range
call_ranges n k g by a = change_ranges k (call_row n k g by a).change.ends (call_result n k g by a)

-- no number stands twice in a list
abbrev pub all_differ : List ℕ → Bool
all_differ [] = true
all_differ (n ∷ ns) = not (has n ns) && all_differ ns
