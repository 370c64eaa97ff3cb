use Rattle.ready_maps.proofs.Facts.{empty_keeps}
use Rattle.ready_maps.proofs.ready.Ready.new.Goals as goal

pub invariant_of-result : goal.invariant_of-result
invariant_of-result c = rw c.in_ok-new.ensures (empty_keeps c.args.priorities c.requires.at_least c.requires.at_most)

pub returns-clause-kept : goal.returns-clause-kept
returns-clause-kept c = rw c.in_ok-new.ensures (empty_keeps c.args.priorities c.requires.at_least c.requires.at_most)
