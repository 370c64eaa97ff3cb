use Rattle.object_grants.proofs.Calls.{calls_keep_the_table}
use Rattle.object_grants.proofs.laws.calls_keep_the_table.Goals as goal

pub returns-clause-sound : goal.returns-clause-sound
returns-clause-sound c = calls_keep_the_table
