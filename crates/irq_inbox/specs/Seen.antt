-- What contracts see of the passes of an inbox.
use Rattle.std.specs.Prelude.{◌≡◌, ℕ, List, [], Some, length, slice_get, All}
use Rattle.atomic_table.specs.Seated.{TableId}

-- the pass of a device: of which inbox and device it is, and the words that were raised with it,
-- in order
pub record DevSeen : Type 0 where
  pub inbox : TableId
  pub number : ℕ
  pub sent : List ℕ

-- the pass that takes: of which inbox it is, and for how many devices that was made; the words that
-- were taken, each with its device, in order; and of each device that was gathered what it sent
pub record CpuSeen : Type 0 where
  pub inbox : TableId
  pub devices : ℕ
  pub got : List (ℕ × ℕ)
  pub gathered : List (List ℕ)

-- these are the passes of all devices of the inbox, in the order of their numbers
abbrev pub AreAllOf : TableId → ℕ → List DevSeen → Type 0
AreAllOf inbox devices devs =
    (length devs ≡ devices)
    × ((d : ℕ) (p : DevSeen) → slice_get devs d ≡ Some p → (p.inbox ≡ inbox) × (p.number ≡ d))

-- no word was raised with any of them
abbrev pub HaveSentNothing : List DevSeen → Type 0
HaveSentNothing devs = All (λ p. p.sent ≡ []) devs
