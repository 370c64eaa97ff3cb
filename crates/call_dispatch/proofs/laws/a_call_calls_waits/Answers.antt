use Rattle.call_dispatch.proofs.Calls.{call_calls_waits}
use Rattle.call_dispatch.proofs.laws.a_call_calls_waits.Goals as goal

pub returns : goal.returns
returns c = call_calls_waits c.a_call_is_kept.ensures c.a_row_is_made_of_parts.ensures.calls
