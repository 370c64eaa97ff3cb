use Rattle.ready_maps.proofs.Facts.{moves_keep}
use Rattle.ready_maps.proofs.laws.moves_keep_the_facts.Goals as goal

pub returns : goal.returns
returns c = moves_keep
