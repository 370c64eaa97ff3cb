-- Guarded memory as a module's code sees it.
use Rattle.std.specs.Prelude.{◌≡◌, ℕ, ◌<◌, true}
use Rattle.region_guard.specs.Memory.{Memory, IsSound, may, byte, with_number}
use Rattle.region_guard.specs.declared.region.Access.TheVariants.{Fetch, Load, Store}
use Rattle.rv_core.specs.Memory.{Memory as Seen, IsStored}

-- its bytes, and what the guard lets module m fetch, load and store
abbrev pub seen : ℕ → Memory → Seen
seen m g = record {
  byte = byte g;
  fetches = may g m Fetch;
  loads = may g m Load;
  stores = may g m Store;
}

-- a store that the guard allows puts its bytes and changes no other, nor what may be used
abbrev pub StoresItsBytes : Type 0
StoresItsBytes =
    (g : Memory) (m a n value : ℕ) → IsSound g → 0 < n → may g m Store a n ≡ true
    → IsStored (seen m g) (seen m (with_number g a n value)) a n value
