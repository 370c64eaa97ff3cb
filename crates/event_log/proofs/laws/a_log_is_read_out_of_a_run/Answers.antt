use Rattle.event_log.proofs.Logged.{logged-text}
use Rattle.event_log.proofs.laws.a_log_is_read_out_of_a_run.Goals as goal

pub returns : goal.returns
returns c = logged-text
