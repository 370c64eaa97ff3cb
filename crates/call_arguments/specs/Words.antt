-- Words that a service reads from a module's memory or writes to it.
use Rattle.std.specs.Prelude.{ℕ, zero, suc, ◌+◌, ◌*◌, List, [], ◌∷◌}
use Rattle.region_guard.specs.Memory.{Memory, number, with_number}

-- the word at an address
abbrev pub word_at : Memory → ℕ → ℕ
word_at g a = number g a 4

-- word number i of a block
abbrev pub nth_word : Memory → ℕ → ℕ → ℕ
nth_word g x i = word_at g (x + 4 * i)

-- n words one after another from an address on
abbrev pub words_at : Memory → ℕ → ℕ → List ℕ
words_at g x zero = []
words_at g x (suc n) = word_at g x ∷ words_at g (x + 4) n

-- the memory with a word at an address
abbrev pub with_word : Memory → ℕ → ℕ → Memory
with_word g a w = with_number g a 4 w

-- the memory with words one after another from an address on
abbrev pub with_words : Memory → ℕ → List ℕ → Memory
with_words g a [] = g
with_words g a (w ∷ ws) = with_words (with_word g a w) (a + 4) ws
