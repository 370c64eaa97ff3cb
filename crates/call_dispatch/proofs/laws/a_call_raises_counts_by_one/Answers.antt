use Rattle.call_dispatch.proofs.Calls.{call_raises_counts_by_one}
use Rattle.call_dispatch.proofs.laws.a_call_raises_counts_by_one.Goals as goal

pub returns : goal.returns
returns c = call_raises_counts_by_one c.a_call_is_kept.ensures
