use Rattle.std.proofs.Common.{◌≡◌, ◌+◌, ◌*◌, true, length, drop}
use Rattle.region_guard.specs.Memory.{may}
use Rattle.region_guard.specs.declared.region.Access.TheVariants.{Store}
use Rattle.call_arguments.specs.Words.{with_words}
use Rattle.call_arguments.proofs.words.put_words.Given as goal

abbrev pub invariant-loop-i : goal.invariant-loop-i
invariant-loop-i l = record {
  allowed : may l.g l.m Store l.a (4 * length l.words) ≡ true;
  rest : with_words l.g (l.a + 4 * l.i) (drop l.i l.words) ≡ with_words l.fn.g l.a l.words;
}
