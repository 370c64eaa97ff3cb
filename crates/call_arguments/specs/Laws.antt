-- What holds of all words of a module's memory.
use Rattle.std.specs.Prelude.{ℕ, ◌≡◌, length}
use Rattle.region_guard.specs.Memory.{Memory}
use Rattle.call_arguments.specs.Words.{words_at}

-- there are as many words as are asked for
abbrev pub WordsAreAsMany : Type 0
WordsAreAsMany = (g : Memory) (x n : ℕ) → length (words_at g x n) ≡ n
