-- The words of a device in a history are those of its interrupts.
use Rattle.std.proofs.Common.{◌≡◌, ℕ, List, [], ◌∷◌, ◌++◌, refl, ap}
use Rattle.event_log.specs.Events.{interrupts, words_in, words_of}
use Rattle.event_log.specs.declared.entry.Entry.{Entry}
use Rattle.event_log.specs.declared.entry.Entry.TheVariants as entry
use Rattle.irq_inbox.specs.Words.{words}
use Rattle.kernel_lock.proofs.laws.words_are_those_of_interrupts.Goals as goal

words-interrupts : (d : ℕ) (es : List Entry) → words_of d es ≡ words d (interrupts es)
words-interrupts d [] = refl
words-interrupts d (entry.Steps n ∷ es) = words-interrupts d es
words-interrupts d (entry.Irq e w ∷ es) = ap (λ xs. words_in d (entry.Irq e w) ++ xs) (words-interrupts d es)

pub returns : goal.returns
returns c = words-interrupts
