-- The texts of a list's elements, written one after the other.
use Rattle.std.proofs.Common.{◌≡◌, ℕ, suc, ◌<◌, List, ◌++◌, length, drop, slice_index_or, sym, ap, ◌∙◌, drop-cons}
use Rattle.std.specs.List.{flat_map}

-- the texts from a place on begin with that of the element there
pub text_first : {X : Type 0} (f : X → List ℕ) (i j : ℕ) (xs : List X) (x : X) (text : List ℕ) → suc i ≡ j → i < length xs → x ≡ slice_index_or xs i x
    → text ≡ f x → flat_map f (drop i xs) ≡ text ++ flat_map f (drop j xs)
text_first f i j xs x text next inside here is =
    ap (λ ys. flat_map f ys) (drop-cons xs i x inside)
    ∙ ap (λ y. f y ++ flat_map f (drop (suc i) xs)) (sym here)
    ∙ ap (λ t. t ++ flat_map f (drop (suc i) xs)) (sym is)
    ∙ ap (λ k. text ++ flat_map f (drop k xs)) next
