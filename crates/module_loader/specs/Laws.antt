-- What is placed lies in free memory, and nothing lies twice.
use Rattle.std.specs.Prelude.{◌≡◌, ◌⊎◌, ℕ, ◌+◌, ◌%◌, ◌<◌, ◌≤◌, List, [], ◌∷◌, All, AllPairs}
use Rattle.std.specs.Prelude.{Contains, Some, Ok}
use Rattle.module_loader.specs.Placement.{Taken, taken, placement}
use Rattle.module_loader.specs.declared.placement.Placed.{Placed}
use Rattle.module_loader.specs.declared.placement.Range.{Range}
use Rattle.module_loader.specs.declared.want.Want.{Want}

-- each range has an address, and ends before the later ones begin
abbrev pub Ascends : List Range → Type 0
Ascends [] = Unit {0}
Ascends (r ∷ free) = (0 < r.size) × All (λ later. r.base + r.size ≤ later.base) free × Ascends free

-- all addresses of a range are another's too
pub record IsWithin (r other : Range) : Type 0 where
  pub from : other.base ≤ r.base
  pub to : r.base + r.size ≤ other.base + other.size

-- a range lies in one of the free ones
abbrev pub LiesIn : List Range → Range → Type 0
LiesIn free r = (other : Range) × Contains free other × IsWithin r other

-- two ranges have no address in common
abbrev pub AreApart : Range → Range → Type 0
AreApart r other = (r.base + r.size ≤ other.base) ⊎ (other.base + other.size ≤ r.base)

-- an address is one of a range's, and one of free memory's
abbrev pub Has : Range → ℕ → Type 0
Has r a = (r.base ≤ a) × (a < r.base + r.size)

abbrev pub IsFree : List Range → ℕ → Type 0
IsFree free a = (r : Range) × Contains free r × Has r a

-- the given number of bytes were taken of free memory
abbrev pub piece_of : Taken → ℕ → Range
piece_of t size = record { base = t.base; size = size }

-- they lie in it at a multiple of 32; what stays free is the rest of it, all the rest, and ascends
-- again
pub record IsTakenApart (free : List Range) (size : ℕ) (t : Taken) : Type 0 where
  pub aligned : t.base % 32 ≡ 0
  pub inside : LiesIn free (piece_of t size)
  pub apart : All (AreApart (piece_of t size)) t.free
  pub stays : All (LiesIn free) t.free
  pub none_lost : (a : ℕ) → IsFree free a → Has (piece_of t size) a ⊎ IsFree t.free a
  pub ascends : Ascends t.free

abbrev pub TakenLiesApart : Type 0
TakenLiesApart =
    (size : ℕ) (free : List Range) (t : Taken) → Ascends free → taken size free ≡ Some t
    → IsTakenApart free size t

-- the memory of placed modules: the code and the data of each
abbrev pub pieces : List Want → List Placed → List Range
pieces [] places = []
pieces (w ∷ wants) [] = []
pieces (w ∷ wants) (p ∷ places) =
    record { base = p.code_base; size = w.code }
    ∷ record { base = p.data_base; size = w.data_bytes } ∷ pieces wants places

-- each piece lies in the free memory, at a multiple of 32, and no two have an address in common
pub record LieApart (free placed : List Range) : Type 0 where
  pub aligned : All (λ r. r.base % 32 ≡ 0) placed
  pub inside : All (LiesIn free) placed
  pub apart : AllPairs AreApart placed

abbrev pub PlacedLieApart : Type 0
PlacedLieApart =
    (free : List Range) (wants : List Want) (places : List Placed)
    → Ascends free → placement free wants ≡ Ok places → LieApart free (pieces wants places)
