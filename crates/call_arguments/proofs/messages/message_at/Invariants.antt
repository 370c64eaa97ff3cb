use Rattle.std.proofs.Common.{◌≡◌, ◌+◌, ◌*◌, ◌-◌, ◌++◌, length}
use Rattle.call_arguments.specs.Words.{words_at}
use Rattle.call_arguments.proofs.messages.message_at.Given as goal

abbrev pub invariant-loop-i : goal.invariant-loop-i
invariant-loop-i l = record {
  read : length l.message ≡ l.i;
  rest : l.message ++ words_at l.g (l.x + 4 * l.i) (l.n - l.i) ≡ words_at l.g l.x l.n;
}
