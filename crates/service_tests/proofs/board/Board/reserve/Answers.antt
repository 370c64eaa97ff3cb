use Rattle.service_tests.proofs.board.Board.reserve.Goals as goal

pub invariant_of-self : goal.invariant_of-self
invariant_of-self c = c.reserve.ensures.serves c.self.inside.g c.self.invariant
