use Rattle.call_arguments.proofs.WordByWord.{as_many}
use Rattle.call_arguments.proofs.laws.words_are_as_many.Goals as goal

pub returns : goal.returns
returns c = as_many
