use Rattle.board_serve.specs.Raised.{HasRaised}
use Rattle.board_serve.proofs.device.work.Given as goal

abbrev pub invariant-loop : goal.invariant-loop
invariant-loop g l = HasRaised l.fn.pass l.script l.pass l.next
