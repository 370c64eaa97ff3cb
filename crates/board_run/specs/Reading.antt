-- What a helper answers that reads files.
use Rattle.std.specs.Prelude.{◌≡◌, ◌⊎◌, Option, Result, Ok, Err, IfSome, MatchOption}
use Rattle.board_run.specs.declared.refusal.Stop.{Stop}
use Rattle.board_run.specs.declared.refusal.Stop.TheVariants.{ReadFault, Refused, NoMemory}

-- why it stopped: the count rose, or a fault of reading is due where that is known; a refusal is
-- due; memory may always run out
abbrev pub Stops : {X : Type 0} → Option (Result X Stop) → Type 0 → Stop → Type 0
Stops due rose ReadFault = MatchOption due rose (λ d. (d ≡ Err ReadFault) ⊎ rose)
Stops due rose (Refused refusal) = IfSome due (λ d. d ≡ Err (Refused refusal))
Stops due rose NoMemory = Unit {0}

-- what is due where that is known, or why it stopped
abbrev pub Gives : {X Y : Type 0} → (Y → X) → Option (Result X Stop) → Type 0 → Result Y Stop
    → Type 0
Gives view due rose (Ok y) = IfSome due (λ d. d ≡ Ok (view y))
Gives view due rose (Err stop) = Stops due rose stop

-- the same of a helper that reads nothing: what is due is known, and there is no fault of reading
abbrev pub StopsHere : {X : Type 0} → Result X Stop → Stop → Type 0
StopsHere due ReadFault = ⊥
StopsHere due (Refused refusal) = due ≡ Err (Refused refusal)
StopsHere due NoMemory = Unit {0}

abbrev pub GivesHere : {X Y : Type 0} → (Y → X) → Result X Stop → Result Y Stop → Type 0
GivesHere view due (Ok y) = due ≡ Ok (view y)
GivesHere view due (Err stop) = StopsHere due stop
