-- Where modules lie: their code and data take memory from a list of free ranges, one after another.
use Rattle.std.specs.Prelude.{◌≡◌, ⊤, ℕ, ◌+◌, ◌-◌, nat_le, nat_lt, Bool, if◌then◌else◌, List, []}
use Rattle.std.specs.Prelude.{◌∷◌, ◌++◌, Option, Some, None, Result, Ok, Err}
use Rattle.module_loader.specs.Want.{rounded_up}
use Rattle.module_loader.specs.declared.placement.PlaceErr.{PlaceErr}
use Rattle.module_loader.specs.declared.placement.PlaceErr.TheVariants.{NoMemory, NoRoom}
use Rattle.module_loader.specs.declared.placement.Placed.{Placed}
use Rattle.module_loader.specs.declared.placement.Range.{Range}
use Rattle.module_loader.specs.declared.want.Want.{Want}

-- modules that are placed at once, at most
abbrev pub most_wants : ℕ
most_wants = 256

-- the first place in a range where code or data may begin
abbrev pub place_in : Range → ℕ
place_in r = rounded_up 32 r.base

-- the given number of bytes from that place on lie in the range
abbrev pub holds : ℕ → Range → Bool
holds size r = nat_le (place_in r + size) (r.base + r.size)

-- the addresses from one up to another, and the same as a list if there are any
abbrev pub span : ℕ → ℕ → Range
span from to = record { base = from; size = to - from }

abbrev pub piece : ℕ → ℕ → List Range
piece from to = if nat_lt from to then span from to ∷ [] else []

-- what stays free of a range without the given number of bytes at its place: the bytes before and
-- those after
abbrev pub left : ℕ → Range → List Range
left size r = piece r.base (place_in r) ++ piece (place_in r + size) (r.base + r.size)

-- memory that was taken: its base, and what stays free
pub record Taken : Type 0 where
  pub base : ℕ
  pub free : List Range

-- a range that doesn't hold them stays free, before what the later ranges leave
abbrev pub in_front : Range → Option Taken → Option Taken
in_front r None = None
in_front r (Some t) = Some (record t { free = r ∷ t.free })

-- the first free range that holds the given number of bytes gives them
abbrev pub taken : ℕ → List Range → Option Taken
taken size [] = None
taken size (r ∷ free) =
    if holds size r then Some (record { base = place_in r; free = left size r ++ free })
    else in_front r (taken size free)

-- where one module lies, and what stays free
pub record PlacedOne : Type 0 where
  pub placed : Placed
  pub free : List Range

-- a module whose code begins at a base, where its data was taken
abbrev pub with_data : ℕ → Option Taken → Option PlacedOne
with_data code_base None = None
with_data code_base (Some data_taken) =
    Some (record {
      placed = record { code_base = code_base; data_base = data_taken.base };
      free = data_taken.free;
    })

-- a module whose code was taken takes its data of what stays free
abbrev pub with_code : Want → Option Taken → Option PlacedOne
with_code w None = None
with_code w (Some code_taken) = with_data code_taken.base (taken w.data_bytes code_taken.free)

-- the code takes its memory first, then the data
abbrev pub placed_one : List Range → Want → Option PlacedOne
placed_one free w = with_code w (taken w.code free)

-- the places of the later modules come after one; the number of one that finds none is counted on
abbrev pub before_others : Placed → Result (List Placed) ℕ → Result (List Placed) ℕ
before_others p (Ok others) = Ok (p ∷ others)
before_others p (Err i) = Err (i + 1)

-- a module was placed, and the later ones are placed in what stays free; or it finds no room
abbrev pub and_others : (List Range → Result (List Placed) ℕ) → Option PlacedOne
    → Result (List Placed) ℕ
and_others others None = Err 0
and_others others (Some one) = before_others one.placed (others one.free)

-- the places of all modules in their order, or which is the first that finds none
abbrev pub placement : List Range → List Want → Result (List Placed) ℕ
placement free [] = Ok []
placement free (w ∷ wants) = and_others (λ rest. placement rest wants) (placed_one free w)

-- what was due is the refusal; that memory ran out may come at any time
abbrev pub Refuses : Result (List Placed) ℕ → PlaceErr → Type 0
Refuses due NoMemory = ⊤
Refuses due (NoRoom i) = due ≡ Err i
