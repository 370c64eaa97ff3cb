-- Memory as a hart sees it: the byte at each address, and the ranges that it may use.
use Rattle.std.specs.Prelude.{◌≡◌, ℕ, ◌%◌, ◌==◌, Bool, if◌then◌else◌, Result, Ok, Err}
use Rattle.machine_words.specs.Number.{number_from, after_store}
use Rattle.rv_core.specs.declared.bus.Cause.{Cause}
use Rattle.rv_core.specs.declared.bus.Cause.TheVariants.{FetchOutside, LoadMisaligned, LoadOutside}
use Rattle.rv_core.specs.declared.bus.Cause.TheVariants.{StoreMisaligned, StoreOutside}

-- whether the n bytes from an address on may be fetched, loaded or stored
pub record Memory : Type 0 where
  pub byte : ℕ → ℕ
  pub fetches : ℕ → ℕ → Bool
  pub loads : ℕ → ℕ → Bool
  pub stores : ℕ → ℕ → Bool

-- what a fetch, a load and a store answer: misaligned comes before outside
abbrev pub fetch_answer : Memory → ℕ → Result ℕ Cause
fetch_answer m a = if m.fetches a 4 then Ok (number_from m.byte a 4) else Err FetchOutside

abbrev pub load_answer : Memory → (a n : ℕ) → Result ℕ Cause
load_answer m a n =
    if a % n == 0
    then (if m.loads a n then Ok (number_from m.byte a n) else Err LoadOutside)
    else Err LoadMisaligned

abbrev pub store_answer : Memory → (a n : ℕ) → Result (Unit {0}) Cause
store_answer m a n =
    if a % n == 0 then (if m.stores a n then Ok tt else Err StoreOutside) else Err StoreMisaligned

-- the low n bytes of a value were put at an address, no other byte changed, and what may be used
-- didn't
pub record IsStored (old new : Memory) (a n value : ℕ) : Type 0 where
  pub bytes : (x : ℕ) → new.byte x ≡ after_store old.byte a n value x
  pub fetches : (x k : ℕ) → new.fetches x k ≡ old.fetches x k
  pub loads : (x k : ℕ) → new.loads x k ≡ old.loads x k
  pub stores : (x k : ℕ) → new.stores x k ≡ old.stores x k
