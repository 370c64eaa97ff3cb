-- The passes that came back, one after another.
use Rattle.std.proofs.Common.{◌≡◌, ℕ, zero, suc, ◌<◌, List, [], ◌∷◌, length, Some, slice_get, slice_index_or, subst, arith}
use Rattle.std.proofs.lemmas.Option.{none-some, same_Some}
use Rattle.atomic_table.specs.Seated.{TableId}
use Rattle.board_file.specs.declared.board.BoardDevice.{BoardDevice}
use Rattle.irq_inbox.specs.Seen.{DevSeen, AreAllOf}
use Rattle.board_serve.specs.Raised.{HasRaised, HaveSentOf, at_first}
use Rattle.board_serve.specs.Scripts.{script_of}

-- a pass of a device has sent a prefix of its script
abbrev pub IsBack : TableId → List BoardDevice → ℕ → DevSeen → Type 0
IsBack inbox devices d p = (k : ℕ) × HasRaised (at_first inbox d) (script_of devices d) p k

-- so each pass in a list
abbrev pub AreBack : TableId → List BoardDevice → List DevSeen → Type 0
AreBack inbox devices passes = (d : ℕ) (any : DevSeen) → d < length passes → IsBack inbox devices d (slice_index_or passes d any)

-- what stands at a place is the element of that number
pub stands_at : {X : Type 0} (xs : List X) (k : ℕ) (x : X) → slice_get xs k ≡ Some x → (k < length xs) × (slice_index_or xs k x ≡ x)
stands_at [] k x e = absurd (none-some x e)
stands_at (y ∷ xs) zero x e = (omega arith, same_Some y x e)
stands_at (y ∷ xs) (suc k) x e = let h = stands_at xs k x e in (omega (arith, h.0), h.1)

pub all_back : (inbox : TableId) (devices : List BoardDevice) (passes : List DevSeen) → length passes ≡ length devices → AreBack inbox devices passes
    → AreAllOf inbox (length devices) passes × HaveSentOf devices passes
all_back inbox devices passes len back = (
  (len, λ d p e. let h = stands_at passes d p e in let b = subst (IsBack inbox devices d) h.1 (back d p h.0) in (b.1.0, b.1.1)),
  λ d p e. let h = stands_at passes d p e in let b = subst (IsBack inbox devices d) h.1 (back d p h.0) in (b.0, b.1.2),
)
