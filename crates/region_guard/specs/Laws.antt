-- What holds of every use of guarded memory: it lies in RAM, its range alone changes, the rule
-- stays.
use Rattle.std.specs.Prelude.{◌≡◌, ◌⊎◌, ℕ, ◌+◌, ◌%◌, ◌^◌, ◌<◌, ◌≤◌, true, List, length, slice_index}
use Rattle.machine_words.specs.Number.{after_store}
use Rattle.flat_ram.specs.Laws.{IsOutside}
use Rattle.region_guard.specs.Memory.{Memory, IsRangeInRam, IsSound, may, byte, number, with_bytes}
use Rattle.region_guard.specs.Memory.{with_number, ram_base}
use Rattle.region_guard.specs.declared.region.Access.{Access}

-- a range that may be used lies in RAM, where it has an address
abbrev pub UsedIsInRam : Type 0
UsedIsInRam =
    (g : Memory) (m : ℕ) (k : Access) (a n : ℕ) → IsSound g → 0 < n → may g m k a n ≡ true
    → IsRangeInRam g.bytes a n

-- a part of a range that may be used may be used
abbrev pub PartsMayBeUsed : Type 0
PartsMayBeUsed =
    (g : Memory) (m : ℕ) (k : Access) (a n b part : ℕ) → 0 < n → may g m k a n ≡ true
    → a ≤ b → b + part ≤ a + n → may g m k b part ≡ true

-- outside of what is written each byte stays
abbrev pub BytesOutsideStay : Type 0
BytesOutsideStay =
    (g : Memory) (others : List ℕ) (a x : ℕ) → ram_base ≤ a → IsOutside a (length others) x
    → byte (with_bytes g a others) x ≡ byte g x

-- what is written stands there
abbrev pub WrittenBytesStand : Type 0
WrittenBytesStand =
    (g : Memory) (others : List ℕ) (a k : ℕ) → IsRangeInRam g.bytes a (length others)
    → k < length others → byte (with_bytes g a others) (a + k) ≡ slice_index others k

-- a number with no byte in what is written stays
abbrev pub NumbersOutsideStay : Type 0
NumbersOutsideStay =
    (g : Memory) (others : List ℕ) (a b n : ℕ) → ram_base ≤ a
    → (b + n ≤ a) ⊎ (a + length others ≤ b) → number (with_bytes g a others) b n ≡ number g b n

-- of a stored number the low bytes stand there, the lowest first, and each other byte stays
abbrev pub StoreChangesItsBytes : Type 0
StoreChangesItsBytes =
    (g : Memory) (a n v x : ℕ) → IsRangeInRam g.bytes a n
    → byte (with_number g a n v) x ≡ after_store (byte g) a n v x

-- a stored number is read back, cut to its width
abbrev pub StoreIsReadBack : Type 0
StoreIsReadBack =
    (g : Memory) (a n v : ℕ) → IsRangeInRam g.bytes a n
    → number (with_number g a n v) a n ≡ v % 256 ^ n

-- no write changes what may be used
abbrev pub RuleStays : Type 0
RuleStays =
    (g : Memory) (others : List ℕ) (a : ℕ) (m : ℕ) (k : Access) (b n : ℕ)
    → may (with_bytes g a others) m k b n ≡ may g m k b n

-- a write keeps what holds of all guarded memory
abbrev pub SoundnessStays : Type 0
SoundnessStays =
    (g : Memory) (others : List ℕ) (a : ℕ) → IsSound g → IsSound (with_bytes g a others)
