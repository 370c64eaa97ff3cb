use Rattle.std.proofs.lemmas.List.Elements.{All-append}
use Rattle.kernel_state.specs.Row.{IsRow}
use Rattle.object_calls.specs.Services.{rows as object_rows}
use Rattle.thread_calls.specs.Services.{rows as thread_rows}
use Rattle.call_dispatch.proofs.Calls.{call_is_kept}
use Rattle.call_dispatch.proofs.laws.a_call_is_kept.Goals as goal

pub returns : goal.returns
returns c =
    call_is_kept c.a_row_is_made_of_parts.ensures.answered
    (All-append IsRow thread_rows object_rows c.each_row_is_one.ensures c.each_row_is_one-2.ensures)
