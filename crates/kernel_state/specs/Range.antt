-- Ranges of addresses, in which a call may write, and what it means that it writes nowhere else.
use Rattle.std.specs.Prelude.{◌≡◌, ℕ, List, All, filter, length}
use Rattle.flat_ram.specs.Laws.{IsOutside}
use Rattle.region_guard.specs.Memory.{Memory, byte, may}
use Rattle.region_guard.specs.declared.region.Access.TheVariants.{Store}

-- the addresses from one on
pub record Range : Type 0 where
  pub base : ℕ
  pub size : ℕ

abbrev pub range : ℕ → ℕ → Range
range base size = record { base = base; size = size }

-- those to which module m may store
abbrev pub allowed : Memory → ℕ → List Range → List Range
allowed g m ranges = filter (λ r. may g m Store r.base r.size) ranges

-- an address in none of the ranges
abbrev pub IsOutsideAll : List Range → ℕ → Type 0
IsOutsideAll ranges x = All (λ r. IsOutside r.base r.size x) ranges

-- the regions and the size of RAM stay, and so does each byte outside of the ranges
pub record WritesAlone (ranges : List Range) (g now : Memory) : Type 0 where
  pub regions : now.regions ≡ g.regions
  pub size : length now.bytes ≡ length g.bytes
  pub bytes : (x : ℕ) → IsOutsideAll ranges x → byte now x ≡ byte g x
