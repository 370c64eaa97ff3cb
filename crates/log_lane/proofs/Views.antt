-- Lists of views, seat by seat.
use Rattle.std.proofs.Common.{◌≡◌, ◌≢◌, ℕ, zero, suc, List, [], ◌∷◌, ◌++◌, length, set, sym, refl, ap, subst, inl, inr, ◌⊎◌, ⊎_elim}
use mathlib.Core.Option.{some, some-injective, some-ne-none}
use lib.ListN.{get_elem?}
use Rattle.crossbeam_queue.proofs.Lists.{at_set}
use Rattle.log_lane.specs.declared.rule.Know.{Know}

-- each view fits its seat
abbrev pub AllFit : (ℕ → Know → Type 0) → List Know → Type 0
AllFit F views = (seat : ℕ) (v : Know) → get_elem? views seat ≡ some v → F seat v

here : (F : ℕ → Know → Type 0) (j seat : ℕ) (w u : Know) → F seat w → j ≡ seat → w ≡ u → F j u
here F j seat w u mine at is = subst (λ (y : ℕ × Know). F y.0 y.1) (λ i. (sym at i, is i)) mine

-- one view changes: it fits, and the others still do
pub all_set : (F : ℕ → Know → Type 0) (views : List Know) (seat : ℕ) (w : Know) → F seat w
    → ((j : ℕ) (u : Know) → j ≢ seat → get_elem? views j ≡ some u → F j u) → AllFit F (set views seat w)
all_set F views seat w mine others j u e = ⊎_elim (λ (x : (j ≡ seat) × (w ≡ u)). here F j seat w u mine x.0 x.1)
    (λ (x : (j ≢ seat) × (get_elem? views j ≡ some u)). others j u x.0 x.1) (at_set views seat j w u e)

either_end : (views : List Know) (a b : Know) (seat : ℕ) → get_elem? (views ++ a ∷ []) seat ≡ some b
    → (get_elem? views seat ≡ some b) ⊎ ((seat ≡ length views) × (a ≡ b))
either_end [] a b zero e = inr (refl, some-injective a b e)
either_end [] a b (suc seat) e = absurd (some-ne-none b (sym e))
either_end (x ∷ xs) a b zero e = inl e
either_end (x ∷ xs) a b (suc seat) e = ⊎_elim inl (λ t. inr (ap suc t.0, t.1)) (either_end xs a b seat e)

-- one view more: it fits, and the others still do
pub all_end : (F : ℕ → Know → Type 0) (views : List Know) (a : Know) → AllFit F views → F (length views) a → AllFit F (views ++ a ∷ [])
all_end F views a old new j u e = ⊎_elim (λ (x : get_elem? views j ≡ some u). old j u x)
    (λ (x : (j ≡ length views) × (a ≡ u)). here F j (length views) a u new x.0 x.1) (either_end views a u j e)
