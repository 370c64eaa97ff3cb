-- Each row of this crate keeps what every row keeps.
use Rattle.std.proofs.Common.{All}
use Rattle.std.proofs.lemmas.List.Elements.{All-append}
use Rattle.kernel_state.specs.Row.{IsRow}
use Rattle.object_calls.specs.QueueRows.{queue_rows}
use Rattle.object_calls.specs.SemaRows.{semaphore_rows}
use Rattle.object_calls.specs.Services.{EachRowIsOne}
use Rattle.object_calls.proofs.EachMessage.{queue_front_send_is_row, queue_receive_is_row, queue_send_is_row}
use Rattle.object_calls.proofs.EachQueue.{queue_create_is_row, queue_delete_is_row, queue_flush_is_row, queue_info_get_is_row, queue_prioritize_is_row}
use Rattle.object_calls.proofs.EachSema.{semaphore_rows_are_rows}
use Rattle.object_calls.proofs.Parts.{◌and◌, Parts, all_rows}

queue_rows_are_rows : Parts → All IsRow queue_rows
queue_rows_are_rows parts =
    all_rows queue_rows (
    queue_create_is_row parts
    and queue_delete_is_row parts
    and queue_send_is_row parts
    and queue_front_send_is_row parts
    and queue_receive_is_row parts
    and queue_flush_is_row parts
    and queue_prioritize_is_row parts
    and queue_info_get_is_row parts
    and tt)

pub each_row_is_one : Parts → EachRowIsOne
each_row_is_one parts = All-append IsRow queue_rows semaphore_rows (queue_rows_are_rows parts) (semaphore_rows_are_rows parts)
