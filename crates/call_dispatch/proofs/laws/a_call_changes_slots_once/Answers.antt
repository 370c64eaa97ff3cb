use Rattle.call_dispatch.proofs.Calls.{call_changes_slots_once}
use Rattle.call_dispatch.proofs.laws.a_call_changes_slots_once.Goals as goal

pub returns : goal.returns
returns c = call_changes_slots_once c.a_call_is_kept.ensures
