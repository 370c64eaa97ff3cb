-- The numbers of the causes, as reports print them.
use Rattle.std.specs.Prelude.{ℕ}
use Rattle.rv_core.specs.declared.bus.Cause.{Cause}
use Rattle.rv_core.specs.declared.bus.Cause.TheVariants.{FetchMisaligned, FetchOutside, Illegal}
use Rattle.rv_core.specs.declared.bus.Cause.TheVariants.{Breakpoint, LoadMisaligned, LoadOutside}
use Rattle.rv_core.specs.declared.bus.Cause.TheVariants.{StoreMisaligned, StoreOutside}

abbrev pub cause_number : Cause → ℕ
cause_number FetchMisaligned = 0
cause_number FetchOutside = 1
cause_number Illegal = 2
cause_number Breakpoint = 3
cause_number LoadMisaligned = 4
cause_number LoadOutside = 5
cause_number StoreMisaligned = 6
cause_number StoreOutside = 7
