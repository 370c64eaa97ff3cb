use Rattle.event_log.proofs.Logged.{history-lines}
use Rattle.event_log.proofs.laws.a_text_falls_into_its_lines.Goals as goal

pub returns : goal.returns
returns c = history-lines
