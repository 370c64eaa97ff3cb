use Rattle.event_log.proofs.LogIn.{answers-due}
use Rattle.event_log.proofs.Unique.{reads-whole, refuses-first}
use Rattle.event_log.proofs.reading.read_log.Goals as goal

pub returns-clause-each_history : goal.returns-clause-each_history
returns-clause-each_history c =
    reads-whole c.args.devices c.args.bytes.now c.read_lines.result c.requires c.read_lines.ensures.good c.read_lines.ensures.bad

pub returns-clause-each_bad_line : goal.returns-clause-each_bad_line
returns-clause-each_bad_line c =
    refuses-first c.args.devices c.args.bytes.now c.read_lines.result c.requires c.read_lines.ensures.good c.read_lines.ensures.bad

pub returns-clause-means : goal.returns-clause-means
returns-clause-means c =
    answers-due c.args.devices c.args.bytes.now c.read_lines.result c.requires c.read_lines.ensures.good c.read_lines.ensures.bad
