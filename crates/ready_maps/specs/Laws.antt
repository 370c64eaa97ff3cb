-- The laws of preemption-threshold, over every list of moves.
use Rattle.std.specs.Prelude.{◌≡◌, ◌≢◌, ℕ, ◌<◌, ◌≤◌, true, false, List, [], ◌∷◌, All, Some, IfSome}
use Rattle.std.specs.Prelude.{IsSome, ⊤}
use Rattle.tx_types.specs.Limits.{slot_limit}
use Rattle.ready_maps.specs.Sched.{Sched, pr, th, is_ready, is_held, runs}
use Rattle.ready_maps.specs.Moves.{readied, unreadied, yielded, threshold_set, priority_set}
use Rattle.ready_maps.specs.Kept.{IsKept}

pub data Move : Type 0 where
  Ready : (t : ℕ) → Move
  Unready : (t : ℕ) → Move
  Yield : Move
  SetThreshold : (t threshold : ℕ) → Move
  SetPriority : (t priority threshold : ℕ) → Move

abbrev pub moved : Sched → Move → Sched
moved s (Ready t) = readied s t
moved s (Unready t) = unreadied s t
moved s Yield = yielded s
moved s (SetThreshold t threshold) = threshold_set s t threshold
moved s (SetPriority t priority threshold) = priority_set s t priority threshold

-- when a move may be made
abbrev pub MayMove : Sched → Move → Type 0
MayMove s (Ready t) = (t < slot_limit) × (is_ready s t ≡ false)
MayMove s (Unready t) = is_ready s t ≡ true
MayMove s Yield = IsSome s.run
MayMove s (SetThreshold t threshold) = (t < slot_limit) × (threshold ≤ pr s t)
MayMove s (SetPriority t priority threshold) =
    (t < slot_limit) × (threshold ≤ priority) × (priority < s.levels)

-- a list of moves, each of which may be made in its turn
abbrev pub all_moved : Sched → List Move → Sched
all_moved s [] = s
all_moved s (m ∷ ms) = all_moved (moved s m) ms

abbrev pub MayMoveAll : Sched → List Move → Type 0
MayMoveAll s [] = ⊤
MayMoveAll s (m ∷ ms) = MayMove s m × MayMoveAll (moved s m) ms

-- the four facts hold after every list of moves
abbrev pub MovesKeepTheFacts : Type 0
MovesKeepTheFacts =
    (s : Sched) (ms : List Move) → IsKept s → MayMoveAll s ms → IsKept (all_moved s ms)

-- the moves of an event that only readies threads and takes out ones that don't run
abbrev pub IsArrival : Sched → Move → Type 0
IsArrival s (Ready t) = ⊤
IsArrival s (Unready t) = runs s t ≡ false
IsArrival s (Yield) = ⊥
IsArrival s (SetThreshold t threshold) = ⊥
IsArrival s (SetPriority t priority threshold) = ⊥

abbrev pub AreArrivals : Sched → List Move → Type 0
AreArrivals s [] = ⊤
AreArrivals s (m ∷ ms) = IsArrival s m × AreArrivals (moved s m) ms

-- the threshold law: whoever runs after such an event in the place of a has a priority below a's
-- threshold
abbrev pub ThresholdLaw : Type 0
ThresholdLaw =
    (s : Sched) (ms : List Move) (a b : ℕ) → IsKept s → MayMoveAll s ms → AreArrivals s ms
    → s.run ≡ Some a
    → (all_moved s ms).run ≡ Some b → a ≢ b → pr s b < th s a

-- a holder is well held where nothing that runs before it has a priority at or above its threshold
pub record IsWellHeld (s : Sched) (k : ℕ) : Type 0 where
  pub is_held : is_held s k ≡ true
  pub runner : IfSome s.run (λ r. pr s r < th s k)
  pub holders : All (λ j. pr s j < pr s k → pr s j < th s k) s.held

-- the moves in which a thread joins the holders well held
abbrev pub JoinsWell : Move → Type 0
JoinsWell (Ready t) = ⊤
JoinsWell (Unready t) = ⊥
JoinsWell Yield = ⊥
JoinsWell (SetThreshold t threshold) = ⊤
JoinsWell (SetPriority t priority threshold) = ⊥

-- the moves that leave holder k well held
abbrev pub LeavesWellHeld : ℕ → Move → Type 0
LeavesWellHeld k (Ready t) = ⊤
LeavesWellHeld k (Unready t) = ⊤
LeavesWellHeld k Yield = ⊤
LeavesWellHeld k (SetThreshold t threshold) = t ≢ k
LeavesWellHeld k (SetPriority t priority threshold) = ⊥

-- the holder law: who joins is well held, and stays so as long as it is held
abbrev pub HolderJoinsLaw : Type 0
HolderJoinsLaw =
    (s : Sched) (m : Move) (k : ℕ) → IsKept s → MayMove s m → JoinsWell m → is_held s k ≡ false
    → is_held (moved s m) k ≡ true
    → IsWellHeld (moved s m) k

abbrev pub HolderStaysLaw : Type 0
HolderStaysLaw =
    (s : Sched) (m : Move) (k : ℕ) → IsKept s → MayMove s m → LeavesWellHeld k m → IsWellHeld s k
    → is_held (moved s m) k ≡ true
    → IsWellHeld (moved s m) k

-- who gives way with a threshold below its priority is held from then on
abbrev pub GivingWayIsHeld : Type 0
GivingWayIsHeld =
    (s : Sched) (m : Move) (r : ℕ) → JoinsWell m → s.run ≡ Some r → runs (moved s m) r ≡ false
    → th (moved s m) r < pr (moved s m) r
    → is_held (moved s m) r ≡ true

-- a ready thread leaves the holders only to run
abbrev pub HolderLeavesLaw : Type 0
HolderLeavesLaw =
    (s : Sched) (m : Move) (k : ℕ) → LeavesWellHeld k m → is_held s k ≡ true
    → is_held (moved s m) k ≡ false → is_ready (moved s m) k ≡ true
    → runs (moved s m) k ≡ true
