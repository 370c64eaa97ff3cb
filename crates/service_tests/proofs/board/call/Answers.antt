use Rattle.service_tests.proofs.board.call.Goals as goal

pub dispatch-requires-clause-serves : goal.dispatch-requires-clause-serves
dispatch-requires-clause-serves c = c.ask.ensures.serves c.args.g.now c.requires
