use Rattle.board_serve.specs.Raised.{AreRunning}
use Rattle.board_serve.proofs.devices.turn_all.Given as goal

abbrev pub invariant-loop-at : goal.invariant-loop-at
invariant-loop-at g l = AreRunning l.inbox l.devices l.working.items
