-- Each row of this crate keeps what every row keeps.
use Rattle.std.proofs.lemmas.List.Elements.{All-append}
use Rattle.kernel_state.specs.Row.{IsRow}
use Rattle.thread_calls.specs.ObjectRows.{object_rows}
use Rattle.thread_calls.specs.Services.{EachRowIsOne}
use Rattle.thread_calls.specs.ThreadRows.{thread_rows}
use Rattle.thread_calls.proofs.ObjectRows.{object_rows_are_rows}
use Rattle.thread_calls.proofs.Parts.{Parts}
use Rattle.thread_calls.proofs.ThreadRows.{thread_rows_are_rows}

pub each_row_is_one : Parts → EachRowIsOne
each_row_is_one parts = All-append IsRow object_rows thread_rows (object_rows_are_rows parts) (thread_rows_are_rows parts)
