use Rattle.board_live.proofs.Replayed.{replayed}
use Rattle.board_live.proofs.laws.a_run_is_replayed_from_its_log.Goals as goal

pub returns : goal.returns
returns c = replayed c.each_history_has_one_text.ensures.read_back
