-- The passes of the first devices, and of one more.
use Rattle.std.proofs.Common.{◌≡◌, ℕ, zero, suc, List, [], ◌∷◌, ◌++◌, Option, Some, length, slice_get, refl, sym, ap, ◌∙◌, subst, arith, length-append}
use Rattle.std.specs.Option.{unwrap_or}
use Rattle.std.proofs.lemmas.Option.{none-some}
use Rattle.irq_inbox.specs.Seen.{DevSeen}

-- each pass fits its place
abbrev pub AllFit : (ℕ → DevSeen → Type 0) → List DevSeen → Type 0
AllFit F devs = (d : ℕ) (p : DevSeen) → slice_get devs d ≡ Some p → F d p

-- one pass more at the end: it fits, and the others still do
all_end : (F : ℕ → DevSeen → Type 0) (xs : List DevSeen) (p : DevSeen) → AllFit F xs → F (length xs) p → AllFit F (xs ++ p ∷ [])
all_end F [] p old new zero q e = subst (λ (x : DevSeen). F zero x) (ap (λ (o : Option DevSeen). unwrap_or o p) e) new
all_end F [] p old new (suc d) q e = absurd (none-some q e)
all_end F (x ∷ xs) p old new zero q e = old zero q e
all_end F (x ∷ xs) p old new (suc d) q e = all_end (λ (k : ℕ). F (suc k)) xs p (λ (k : ℕ). old (suc k)) new d q e

-- the pass after some others stands at their number
stands : (before : List DevSeen) (p : DevSeen) (rest : List DevSeen) → slice_get (before ++ p ∷ rest) (length before) ≡ Some p
stands [] p rest = refl
stands (x ∷ xs) p rest = stands xs p rest

-- the next pass, when it has raised, fits where it stood
pub one_back : (F : ℕ → DevSeen → Type 0) (devs before rest back after : List DevSeen) (p q : DevSeen) → AllFit F devs → before ++ p ∷ rest ≡ devs
    → length back ≡ length before → AllFit F back → ((d : ℕ) → F d p → F d q) → after ≡ back ++ q ∷ []
    → (length after ≡ length (before ++ p ∷ [])) × AllFit F after
one_back F devs before rest back after p q all e long so same grown =
    let place = ap (λ (l : List DevSeen). slice_get l (length before)) (sym e) ∙ stands before p rest in
    let here : F (length back) q = subst (λ (k : ℕ). F k q) (sym long) (same (length before) (all (length before) p place)) in
    let more : length after ≡ length (before ++ p ∷ []) = omega (arith, ap length grown, length-append back (q ∷ []), length-append before (p ∷ []), long) in
    (more, subst (λ (l : List DevSeen). AllFit F l) (sym grown) (all_end F back q so here))
