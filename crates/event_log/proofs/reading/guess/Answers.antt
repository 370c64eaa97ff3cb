use Rattle.event_log.proofs.Digits.{guess-steps}
use Rattle.event_log.proofs.reading.guess.Goals as goal

pub returns-in-83 : goal.returns-in-83
returns-in-83 c = λ e one small is. guess-steps c.args.line.now e c.number.result c.in-83.is small is c.number.ensures
