use Rattle.call_dispatch.proofs.Calls.{call_changes_a0_alone}
use Rattle.call_dispatch.proofs.laws.a_call_changes_its_a0_alone.Goals as goal

pub returns : goal.returns
returns c = call_changes_a0_alone c.a_call_is_kept.ensures c.a_row_is_made_of_parts.ensures.calls
