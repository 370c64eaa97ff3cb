use Rattle.sync_objects.proofs.Counts.{new_is_table, sets_keep, removes_keep}
use Rattle.sync_objects.proofs.laws.calls_keep_the_counts.Goals as goal

pub returns : goal.returns
returns c = record { new = new_is_table; sets = sets_keep; removes = removes_keep }
