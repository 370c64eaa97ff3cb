use Rattle.ready_maps.proofs.HolderLaw.{holder_joins, holder_stays}
use Rattle.ready_maps.proofs.HolderMoves.{giving_way_is_held, holder_leaves}
use Rattle.ready_maps.proofs.laws.the_holder_law.Goals as goal

pub returns-clause-joins : goal.returns-clause-joins
returns-clause-joins c = holder_joins

pub returns-clause-stays : goal.returns-clause-stays
returns-clause-stays c = holder_stays

pub returns-clause-held : goal.returns-clause-held
returns-clause-held c = giving_way_is_held

pub returns-clause-leaves : goal.returns-clause-leaves
returns-clause-leaves c = holder_leaves
