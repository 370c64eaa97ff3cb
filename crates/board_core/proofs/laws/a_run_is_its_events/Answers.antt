use Rattle.board_core.proofs.Traces.{now_is, totals_are_of_ended}
use Rattle.board_core.proofs.laws.a_run_is_its_events.Goals as goal

pub returns : goal.returns
returns c = record { now = now_is; totals = totals_are_of_ended }
