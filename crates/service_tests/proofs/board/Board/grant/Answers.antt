use Rattle.service_tests.proofs.board.Board.grant.Goals as goal

pub invariant_of-self : goal.invariant_of-self
invariant_of-self c = c.grant.ensures.serves c.self.inside.g c.self.invariant
