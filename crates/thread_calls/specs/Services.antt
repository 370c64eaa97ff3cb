-- The rows of this crate, a list from each file of services.
use Rattle.std.specs.Prelude.{List, ◌++◌, All}
use Rattle.kernel_state.specs.Row.{Row, IsRow}
use Rattle.thread_calls.specs.ObjectRows.{object_rows}
use Rattle.thread_calls.specs.ThreadRows.{thread_rows}

abbrev pub rows : List Row
rows = object_rows ++ thread_rows

abbrev pub EachRowIsOne : Type 0
EachRowIsOne = All IsRow rows
