use Rattle.call_dispatch.proofs.Calls.{call_writes_results_alone}
use Rattle.call_dispatch.proofs.laws.a_call_writes_results_alone.Goals as goal

pub returns : goal.returns
returns c = call_writes_results_alone c.a_call_is_kept.ensures
