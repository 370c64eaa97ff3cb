use Rattle.std.proofs.Common.{rules}
use Rattle.object_grants.proofs.Calls.{dead_stays_dead, dies_with_its_slot}
use Rattle.object_grants.proofs.laws.a_reference_dies_with_its_slot.Goals as goal

pub returns-clause-dead_stays_dead : goal.returns-clause-dead_stays_dead
returns-clause-dead_stays_dead c = dead_stays_dead

pub returns-clause-dies_with_its_slot : goal.returns-clause-dies_with_its_slot
returns-clause-dies_with_its_slot c = dies_with_its_slot (search rules) (search rules)
