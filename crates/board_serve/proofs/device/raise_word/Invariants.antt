use Rattle.std.proofs.Common.{◌≡◌}
use Rattle.board_serve.proofs.device.raise_word.Given as goal

abbrev pub invariant-loop : goal.invariant-loop
invariant-loop g l = l.pass ≡ l.fn.pass
