-- Lists of views, seat by seat.
use Rattle.std.proofs.Common.{◌≡◌, ◌≢◌, ℕ, zero, suc, ◌<◌, List, [], ◌∷◌, ◌++◌, length, set, slice_index_or, sym, refl, ap, subst, inl, inr, ◌⊎◌, ⊎_elim, arith}
use mathlib.Core.Option.{some, some-injective, some-ne-none}
use lib.ListN.{get_elem?}
use Rattle.crossbeam_queue.proofs.Lists.{at_set}
use Rattle.irq_inbox.specs.declared.rule.Know.{Know}

-- a seat that has a view is one of the list's
pub below : (views : List Know) (seat : ℕ) (v : Know) → get_elem? views seat ≡ some v → seat < length views
below [] seat v e = absurd (some-ne-none v (sym e))
below (x ∷ xs) zero v e = omega arith
below (x ∷ xs) (suc seat) v e = let h = below xs seat v e in omega arith

-- of one view more, a seat is an old one or the new one
pub either_end : (views : List Know) (a b : Know) (seat : ℕ) → get_elem? (views ++ a ∷ []) seat ≡ some b
    → (get_elem? views seat ≡ some b) ⊎ ((seat ≡ length views) × (a ≡ b))
either_end [] a b zero e = inr (refl, some-injective a b e)
either_end [] a b (suc seat) e = absurd (some-ne-none b (sym e))
either_end (x ∷ xs) a b zero e = inl e
either_end (x ∷ xs) a b (suc seat) e = ⊎_elim inl (λ t. inr (ap suc t.0, t.1)) (either_end xs a b seat e)

-- each view fits its seat
abbrev pub AllFit : (ℕ → Know → Type 0) → List Know → Type 0
AllFit F views = (seat : ℕ) (v : Know) → get_elem? views seat ≡ some v → F seat v

-- one view changes: it fits, and the others still do
pub all_set : (F : ℕ → Know → Type 0) (views : List Know) (seat : ℕ) (w : Know) → F seat w
    → ((j : ℕ) (u : Know) → j ≢ seat → get_elem? views j ≡ some u → F j u) → AllFit F (set views seat w)
all_set F views seat w mine others j u e = ⊎_elim (λ (x : (j ≡ seat) × (w ≡ u)). subst (λ (y : ℕ × Know). F y.0 y.1) (λ i. (sym x.0 i, x.1 i)) mine)
    (λ (x : (j ≢ seat) × (get_elem? views j ≡ some u)). others j u x.0 x.1) (at_set views seat j w u e)

-- one view more: it fits, and the others still do
pub all_end : (F : ℕ → Know → Type 0) (views : List Know) (a : Know) → AllFit F views → F (length views) a → AllFit F (views ++ a ∷ [])
all_end F views a old new j u e = ⊎_elim (λ (x : get_elem? views j ≡ some u). old j u x)
    (λ (x : (j ≡ length views) × (a ≡ u)). subst (λ (y : ℕ × Know). F y.0 y.1) (λ i. (sym x.0 i, x.1 i)) new) (either_end views a u j e)

-- what is known of the first devices, and then of one more
pub one_known : (P : ℕ → List ℕ) (known : List (List ℕ)) (last : List ℕ) → ((d : ℕ) → d < length known → slice_index_or known d [] ≡ P d)
    → last ≡ P (length known) → (d : ℕ) → d < suc (length known) → slice_index_or (known ++ last ∷ []) d [] ≡ P d
one_known P [] last f e zero lt = e
one_known P [] last f e (suc d) lt = absurd (omega arith)
one_known P (x ∷ xs) last f e zero lt = f zero (omega arith)
one_known P (x ∷ xs) last f e (suc d) lt = one_known (λ k. P (suc k)) xs last (λ k h. f (suc k) (omega arith)) e d (omega arith)
