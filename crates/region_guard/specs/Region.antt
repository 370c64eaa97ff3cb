-- A region: a range of addresses, what it may be used for, and by which modules.
use Rattle.std.specs.Prelude.{ℕ, ◌+◌, ◌==◌, ◌&&◌, Bool, true, false, nat_le, nat_lt}
use Rattle.machine_words.specs.Bits.{bits}
use Rattle.region_guard.specs.declared.region.Access.{Access}
use Rattle.region_guard.specs.declared.region.Access.TheVariants.{Fetch, Load, Store}
use Rattle.region_guard.specs.declared.region.Rights.{Rights}
use Rattle.region_guard.specs.declared.region.Rights.TheVariants.{Code, Read, ReadWrite}
use Rattle.region_guard.specs.declared.region.Region.{Region}

-- code can be fetched and loaded, and nothing but ReadWrite can be stored to
abbrev pub gives : Rights → Access → Bool
gives Code Fetch = true
gives Code Load = true
gives Code Store = false
gives Read Fetch = false
gives Read Load = true
gives Read Store = false
gives ReadWrite Fetch = false
gives ReadWrite Load = true
gives ReadWrite Store = true

-- the n addresses from a on lie in the region
abbrev pub covers : Region → ℕ → ℕ → Bool
covers r a n = nat_le r.base a && nat_le (a + n) (r.base + r.size)

-- the region is one of module m's: bit m of `who` is set
abbrev pub is_for : ℕ → Region → Bool
is_for m r = bits r.who m 1 == 1

-- its modules may use the n addresses from a on so
abbrev pub allows : Access → ℕ → ℕ → Region → Bool
allows k a n r = covers r a n && gives r.rights k

-- the region lets module m use the n addresses from a on
abbrev pub lets : ℕ → Access → ℕ → ℕ → Region → Bool
lets m k a n r = allows k a n r && is_for m r

-- two regions have an address in common
abbrev pub meets : Region → Region → Bool
meets r s = nat_lt r.base (s.base + s.size) && nat_lt s.base (r.base + r.size)
