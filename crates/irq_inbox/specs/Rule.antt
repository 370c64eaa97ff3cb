-- The inbox rule: of each device, what was sent is what was got and then what the queue holds.
use Rattle.std.specs.Prelude.{◌≡◌, ℕ, suc, ◌<◌, ◌≤◌, true, false, List, [], ◌++◌, length}
use Rattle.std.specs.Prelude.{slice_index_or}
use mathlib.Core.Option.{some}
use lib.ListN.{get_elem?}
use Rattle.crossbeam_queue.specs.Passes.{Pass, view}
use Rattle.irq_inbox.specs.Words.{words}
use Rattle.irq_inbox.specs.declared.rule.Know.{Know}
pub use Rattle.irq_inbox.specs.Words.{word_of, words}

-- a pass that was taken into another
abbrev pub nobody : Know
nobody = record {
  takes = false;
  made = 0;
  got = [];
  known = [];
  sends = false;
  number = 0;
  sent = [];
}

-- the pass that takes has made the given number of devices, got these words, and knows what the
-- first devices sent in all
abbrev pub taker : ℕ → List (ℕ × ℕ) → List (List ℕ) → Know
taker made got known = record nobody { takes = true; made = made; got = got; known = known }

-- the pass of a device has sent these words
abbrev pub sender : ℕ → List ℕ → Know
sender number sent = record nobody { sends = true; number = number; sent = sent }

-- what a pass knows
abbrev pub known : Pass (ℕ × ℕ) Know → Know
known p = view p

-- of the device's words, those that are in the queue were sent last
abbrev pub HoldsRest : ℕ → List ℕ → List (ℕ × ℕ) → Type 0
HoldsRest d sent items = (got : List (ℕ × ℕ)) × (sent ≡ words d (got ++ items))

-- what each of the gathered devices sent is what was got of it and then what the queue holds
abbrev pub AreSent : List (List ℕ) → List (ℕ × ℕ) → List (ℕ × ℕ) → Type 0
AreSent known got items =
    (d : ℕ) → d < length known → slice_index_or known d [] ≡ words d (got ++ items)

-- the pass of a device that has not ended has the seat of its number, and knows what it sent
abbrev pub FitsSender : ℕ → List (ℕ × ℕ) → ℕ → Know → Type 0
FitsSender ended all seat v =
    v.sends ≡ true
    → (seat ≡ suc v.number) × (v.sent ≡ words v.number all) × (ended ≤ v.number)

-- the pass that takes has seat 0. It knows what was got, how many devices there are, and what those
-- sent that have ended
abbrev pub FitsTaker : ℕ → ℕ → List (ℕ × ℕ) → List (ℕ × ℕ) → ℕ → Know → Type 0
FitsTaker seats ended got all seat v =
    v.takes ≡ true
    → (seat ≡ 0) × (v.got ≡ got) × (seats ≡ suc v.made)
    × (length v.known ≡ ended) × (ended ≤ v.made)
    × ((d : ℕ) → v.made ≤ d → words d all ≡ [])
    × ((d : ℕ) → d < ended → slice_index_or v.known d [] ≡ words d all)

abbrev pub Fits : ℕ → ℕ → List (ℕ × ℕ) → List (ℕ × ℕ) → ℕ → Know → Type 0
Fits seats ended got all seat v =
    FitsSender ended all seat v × FitsTaker seats ended got all seat v

-- some first devices have ended, some words were got, and each pass fits these and the queue
abbrev pub Delivers : List (ℕ × ℕ) → List Know → Type 0
Delivers items views =
    (ended : ℕ) × (got : List (ℕ × ℕ))
    × ((seat : ℕ) (v : Know) → get_elem? views seat ≡ some v
    → Fits (length views) ended got (got ++ items) seat v)
