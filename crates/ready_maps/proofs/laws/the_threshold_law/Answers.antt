use Rattle.ready_maps.proofs.ThresholdLaw.{threshold_law}
use Rattle.ready_maps.proofs.laws.the_threshold_law.Goals as goal

pub returns : goal.returns
returns c = threshold_law c.moves_keep_the_facts.ensures
