use Rattle.board_run.proofs.Alike.{lies_alike, stops_alike}
use Rattle.board_run.proofs.laws.a_board_is_checked_as_it_boots.Goals as goal

pub returns : goal.returns
returns c = record { stops = stops_alike; lies = lies_alike }
