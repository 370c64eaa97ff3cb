use Rattle.std.proofs.Common.{◌≡◌, take}
use Rattle.tx_types.proofs.message.Message.from_words.Given as goal

abbrev pub invariant-loop-w : goal.invariant-loop-w
invariant-loop-w l = l.message ≡ take l.w-index l.words
