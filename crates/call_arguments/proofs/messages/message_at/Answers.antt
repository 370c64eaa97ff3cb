use Rattle.std.proofs.Common.{[], ◌∷◌, arith, length-append}
use Rattle.call_arguments.proofs.WordByWord.{next_word}
use Rattle.call_arguments.proofs.messages.message_at.Goals as goal

pub loop-i-preserved : goal.loop-i-preserved
loop-i-preserved c = rw c.push.ensures record {
  read = omega (arith, length-append c.loop-i.message (c.nth_word.result ∷ []), c.loop-i.invariant.read);
  rest = rw (c.nth_word.ensures, c.from-in-loop-i.ensures)
      (next_word c.args.g.now c.args.x c.loop-i.i c.args.n c.loop-i.message _ (omega arith) c.loop-i.invariant.rest);
}
