-- Guarded memory: RAM from an address on, and the regions in which it may be used.
use Rattle.std.specs.Prelude.{◌≡◌, ℕ, ◌+◌, ◌-◌, ◌<◌, ◌≤◌, ◌^◌, ◌==◌, ◌||◌, ◌&&◌, Bool, false, not}
use Rattle.std.specs.Prelude.{nat_le, List, length, slice_index, slice_range, All, AllPairs}
use Rattle.std.specs.Prelude.{if◌then◌else◌}
use Rattle.std.specs.List.{list_any}
use Rattle.machine_words.specs.Number.{number_from, low_bytes}
use Rattle.tx_types.specs.Limits.{region_limit}
use Rattle.flat_ram.specs.Ram.{over}
use Rattle.region_guard.specs.Region.{lets, meets}
use Rattle.region_guard.specs.declared.region.Access.{Access}
use Rattle.region_guard.specs.declared.region.Region.{Region}

-- where RAM begins
abbrev pub ram_base : ℕ
ram_base = 0x80000000

-- the regions in the order in which they were added, and the bytes of RAM
pub record Memory : Type 0 where
  pub regions : List Region
  pub bytes : List ℕ

-- the guard's rule: no address at all, or all of them in one region that gives module m this access
abbrev pub may : Memory → ℕ → Access → ℕ → ℕ → Bool
may g m k a n = (n == 0) || list_any (lets m k a n) g.regions

-- the same for at least one address
abbrev pub reaches : Memory → ℕ → Access → ℕ → ℕ → Bool
reaches g m k a n = not (n == 0) && may g m k a n

-- the byte at an address, and 0 where there is no RAM
abbrev pub byte : Memory → ℕ → ℕ
byte g a = if nat_le ram_base a then slice_index g.bytes (a - ram_base) else 0

-- the number in the n bytes from an address on, the lowest first
abbrev pub number : Memory → ℕ → ℕ → ℕ
number g a n = number_from (byte g) a n

-- the n bytes from an address on
abbrev pub bytes_from : Memory → ℕ → ℕ → List ℕ
bytes_from g a n = slice_range g.bytes (a - ram_base) (a - ram_base + n)

-- the memory with bytes in the place of those from an address on
abbrev pub with_bytes : Memory → ℕ → List ℕ → Memory
with_bytes g a others = record g { bytes = over g.bytes (a - ram_base) others }

-- the memory with the low n bytes of v from an address on, the lowest first
abbrev pub with_number : Memory → ℕ → ℕ → ℕ → Memory
with_number g a n v = with_bytes g a (low_bytes n v)

-- the n addresses from a on are in RAM
pub record IsRangeInRam (bytes : List ℕ) (a n : ℕ) : Type 0 where
  pub from_base : ram_base ≤ a
  pub to_end : a + n ≤ ram_base + length bytes

-- a region has an address, and all of them are in RAM
pub record IsInRam (bytes : List ℕ) (r : Region) : Type 0 where
  pub not_empty : 0 < r.size
  pub range : IsRangeInRam bytes r.base r.size

-- what holds of all guarded memory
pub record IsSound (g : Memory) : Type 0 where
  pub at_most : length g.regions ≤ region_limit
  pub in_ram : All (IsInRam g.bytes) g.regions
  pub apart : AllPairs (λ earlier later. meets later earlier ≡ false) g.regions
  pub addressable : ram_base + length g.bytes ≤ 2 ^ 32
