use Rattle.board_serve.specs.Raised.{AreRunning}
use Rattle.board_serve.proofs.drive.drain.Given as goal

abbrev pub invariant-loop : goal.invariant-loop
invariant-loop g l = AreRunning l.inbox l.board.devices l.working.items
