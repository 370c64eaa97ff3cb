-- The words of a device in a list that is one pair longer.
use Rattle.std.proofs.Common.{◌≡◌, ◌≢◌, ℕ, List, [], ◌∷◌, ◌++◌, length, sym, ap, ◌∙◌, append_assoc, arith}
use Rattle.std.proofs.lemmas.Bool.Decides.{nat_tests}
use Rattle.std.proofs.lemmas.Grind.{flat_map-append}
use Rattle.std.proofs.lemmas.List.{append-nil}
use Rattle.irq_inbox.specs.Words.{word_of, words}

one_here : (d w : ℕ) → word_of d (d, w) ≡ w ∷ []
one_here d w = grind (arith, nat_tests)

one_else : (d n w : ℕ) → d ≢ n → word_of d (n, w) ≡ []
one_else d n w other = grind (arith, nat_tests)

pub words-append : (d : ℕ) (xs ys : List (ℕ × ℕ)) → words d (xs ++ ys) ≡ words d xs ++ words d ys
words-append d xs ys = flat_map-append (word_of d) xs ys

one_more : (d n w : ℕ) (got items : List (ℕ × ℕ)) → words d (got ++ (items ++ (n, w) ∷ [])) ≡ words d (got ++ items) ++ word_of d (n, w)
one_more d n w got items =
    ap (words d) (sym (append_assoc got items ((n, w) ∷ [])))
    ∙ (words-append d (got ++ items) ((n, w) ∷ []) ∙ ap (λ t. words d (got ++ items) ++ t) (append-nil (word_of d (n, w))))

-- a word of the device itself goes last
pub words-here : (d w : ℕ) (got items : List (ℕ × ℕ)) → words d (got ++ (items ++ (d, w) ∷ [])) ≡ words d (got ++ items) ++ w ∷ []
words-here d w got items = one_more d d w got items ∙ ap (λ t. words d (got ++ items) ++ t) (one_here d w)

-- a word of another device changes nothing
pub words-else : (d n w : ℕ) (got items : List (ℕ × ℕ)) → d ≢ n → words d (got ++ (items ++ (n, w) ∷ [])) ≡ words d (got ++ items)
words-else d n w got items other =
    one_more d n w got items ∙ (ap (λ t. words d (got ++ items) ++ t) (one_else d n w other) ∙ append-nil (words d (got ++ items)))

not_none : (xs ys : List ℕ) (w : ℕ) → xs ++ (w ∷ ys) ≢ []
not_none [] ys w e = absurd (omega (arith, ap length e))
not_none (x ∷ xs) ys w e = absurd (omega (arith, ap length e))

-- a device of which a word waits has words
pub words-some : (d w : ℕ) (got items : List (ℕ × ℕ)) → words d (got ++ (d, w) ∷ items) ≢ []
words-some d w got items none =
    not_none (words d got) (words d items) w (sym (words-append d got ((d, w) ∷ items) ∙ ap (λ t. words d got ++ (t ++ words d items)) (one_here d w)) ∙ none)
