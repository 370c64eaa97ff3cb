use Rattle.event_log.proofs.LogIn.{reads-back, says-true, says-text}
use Rattle.event_log.proofs.Unique.{texts-apart, no-bad-line, one-bad-line}
use Rattle.event_log.proofs.laws.each_history_has_one_text.Goals as goal

pub returns-clause-apart : goal.returns-clause-apart
returns-clause-apart c = texts-apart

pub returns-clause-no_bad_line : goal.returns-clause-no_bad_line
returns-clause-no_bad_line c = no-bad-line

pub returns-clause-one_bad_line : goal.returns-clause-one_bad_line
returns-clause-one_bad_line c = one-bad-line

pub returns-clause-read_back : goal.returns-clause-read_back
returns-clause-read_back c = reads-back

pub returns-clause-says_true : goal.returns-clause-says_true
returns-clause-says_true c = says-true

pub returns-clause-says_its_text : goal.returns-clause-says_its_text
returns-clause-says_its_text c = says-text
