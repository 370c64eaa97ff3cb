use Rattle.kernel_state.proofs.Promises.{what_is_promised_stays}
use Rattle.kernel_state.proofs.Serving.{promise_is_kept}
use Rattle.kernel_state.proofs.laws.a_promised_result_may_be_stored.Goals as goal

pub returns : goal.returns
returns c = record { kept = promise_is_kept; stays = what_is_promised_stays }
