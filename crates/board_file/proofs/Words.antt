-- The words of a script, as the code goes over them.
use Rattle.std.proofs.Common.{◌≡◌, ℕ, zero, suc, ◌*◌, List, [], ◌∷◌, ◌++◌, length, Option, None, Some, refl, append_assoc, length-append, arith}
use Rattle.board_file.specs.Board.{repeated}

-- words before those that are read, if they are
abbrev pub with_front : List ℕ → Option (List ℕ) → Option (List ℕ)
with_front done None = None
with_front done (Some words) = Some (done ++ words)

with_more : (done : List ℕ) (w : ℕ) (rest : Option (List ℕ)) → with_front done (with_front (w ∷ []) rest) ≡ with_front (done ++ w ∷ []) rest
with_more done w None = refl
with_more done w (Some ws) = rw (append_assoc done (w ∷ []) ws) refl

pub length_repeated : (n : ℕ) (words : List ℕ) → length (repeated n words) ≡ n * length words
length_repeated zero words = omega arith
length_repeated (suc n) words = grind (arith, length-append (repeated n words) words, length_repeated n words)
