use Rattle.sync_objects.proofs.Counts.{sets_spare_others, removes_spare_others, count_is_set, count_is_gone}
use Rattle.sync_objects.proofs.laws.a_call_changes_its_count_alone.Goals as goal

pub returns : goal.returns
returns c = record { sets = sets_spare_others; removes = removes_spare_others; is_set = count_is_set; is_gone = count_is_gone }
