use Rattle.module_loader.proofs.Apart.{taken_lies_apart, placed_lie_apart}
use Rattle.module_loader.proofs.laws.what_is_placed_lies_apart.Goals as goal

pub returns : goal.returns
returns c = record { taken = taken_lies_apart; placed = placed_lie_apart }
