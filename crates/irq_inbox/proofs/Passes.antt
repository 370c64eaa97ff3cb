-- The passes of all devices, one after another.
use Rattle.std.proofs.Common.{◌≡◌, ℕ, List, [], ◌∷◌, ◌++◌, Some, length, slice_get, sym, refl, ap, ◌∙◌, subst}
use Rattle.atomic_table.specs.Seated.{TableId}
use Rattle.irq_inbox.specs.Rule.{taker}
use Rattle.irq_inbox.specs.Seen.{DevSeen, AreAllOf}
use Rattle.irq_inbox.specs.declared.rule.Know.{Know}

-- the pass after some others stands at their number
pub stands : (before : List DevSeen) (p : DevSeen) (rest : List DevSeen) → slice_get (before ++ p ∷ rest) (length before) ≡ Some p
stands [] p rest = refl
stands (x ∷ xs) p rest = stands xs p rest

-- a view that is equal to that of a role is that of its own parts
pub is_taker : (v : Know) (made : ℕ) (got : List (ℕ × ℕ)) (known : List (List ℕ)) → v ≡ taker made got known → v ≡ taker v.made v.got v.known
is_taker v made got known e = subst (λ (y : Know). y ≡ taker y.made y.got y.known) (sym e) refl

-- a pass after some others is of the inbox, and of the device whose turn it is
pub next_of : (inbox : TableId) (devices : ℕ) (devs before rest : List DevSeen) (p : DevSeen) → AreAllOf inbox devices devs → before ++ p ∷ rest ≡ devs
    → (p.inbox ≡ inbox) × (p.number ≡ length before)
next_of inbox devices devs before rest p all e = all.1 (length before) p (ap (λ l. slice_get l (length before)) (sym e) ∙ stands before p rest)
