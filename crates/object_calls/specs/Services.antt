-- The rows of this crate, a list from each file of services.
use Rattle.std.specs.Prelude.{List, ◌++◌, All}
use Rattle.kernel_state.specs.Row.{Row, IsRow}
use Rattle.object_calls.specs.QueueRows.{queue_rows}
use Rattle.object_calls.specs.SemaRows.{semaphore_rows}

abbrev pub rows : List Row
rows = queue_rows ++ semaphore_rows

abbrev pub EachRowIsOne : Type 0
EachRowIsOne = All IsRow rows
