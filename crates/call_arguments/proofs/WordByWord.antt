-- Words of a message: how many there are, and each after those that are read.
use Rattle.std.proofs.Common.{◌≡◌, ℕ, zero, suc, ◌+◌, ◌*◌, ◌-◌, ◌<◌, List, [], ◌∷◌, ◌++◌, refl, ap, sym, ◌∙◌, arith, append_assoc}
use Rattle.region_guard.specs.Memory.{Memory}
use Rattle.call_arguments.specs.Laws.{WordsAreAsMany}
use Rattle.call_arguments.specs.Words.{word_at, words_at}

pub as_many : WordsAreAsMany
as_many g x zero = refl
as_many g x (suc n) = ap suc (as_many g (x + 4) n)

-- word number i is read after those before it
pub next_word : (g : Memory) (x i n : ℕ) (read all : List ℕ) → i < n → read ++ words_at g (x + 4 * i) (n - i) ≡ all
    → (read ++ word_at g (x + 4 * i) ∷ []) ++ words_at g (x + 4 * (i + 1)) (n - (i + 1)) ≡ all
next_word g x i n read all below whole =
    let left : n - i ≡ suc (n - (i + 1)) = omega arith in
    let next : x + 4 * i + 4 ≡ x + 4 * (i + 1) = omega arith in
    let rest = words_at g (x + 4 * (i + 1)) (n - (i + 1)) in
    let here : words_at g (x + 4 * i) (n - i) ≡ word_at g (x + 4 * i) ∷ rest = rw (left, ← next) refl in
    append_assoc read (word_at g (x + 4 * i) ∷ []) rest ∙ (sym (ap (λ (ws : List ℕ). read ++ ws) here) ∙ whole)
