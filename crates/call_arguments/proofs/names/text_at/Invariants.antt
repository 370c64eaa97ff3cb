use Rattle.std.proofs.Common.{◌≡◌, ◌≢◌, ◌+◌, ◌-◌, length, All}
use Rattle.call_arguments.specs.Names.{text_at}
use Rattle.call_arguments.proofs.Reading.{before_all}
use Rattle.call_arguments.proofs.names.text_at.Given as goal

abbrev pub invariant-loop-i : goal.invariant-loop-i
invariant-loop-i l = record {
  read : length l.name ≡ l.i;
  whole : All (λ b. b ≢ 0) l.name;
  rest : before_all l.name (text_at l.g l.m (l.x + l.i) (32 - l.i)) ≡ text_at l.g l.m l.x 32;
}
