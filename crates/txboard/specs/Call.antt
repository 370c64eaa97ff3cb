-- A call of the program: which top call answers the words, what it promises, and the status that
-- the process ended with.
use Rattle.std.specs.Prelude.{ℕ, Bool, false, List, [], ◌∷◌, IfSome, MatchBool, codes}
use Rattle.std.specs.Prelude.{slice_index_or}
use Rattle.std.specs.Process.{exit_status}
use Rattle.std.specs.Str.{bytes_eq}
use Rattle.std.specs.declared.process.ExitCode.{ExitCode}
use Rattle.board_io.specs.declared.status.Status.{Status}
use Rattle.board_io.specs.declared.status.Status.TheVariants.{Done, Usage, ReadFault, Refused}
use Rattle.board_io.specs.declared.status.Status.TheVariants.{WriteFault, NoMemory}
use Rattle.board_live.specs.Live.{LiveAlways, LiveAnswers, LiveCompletes, live_due, live_row_of}
use Rattle.board_run.specs.Answer.{Always, Answers, Completes}
use Rattle.board_run.specs.Call.{Call, Ended}
use Rattle.board_run.specs.Command.{row_of}
use Rattle.board_run.specs.Due.{due}

-- whether the first word is `run`, whose devices have threads
abbrev pub is_live : List (List ℕ) → Bool
is_live [] = false
is_live (name ∷ words) = bytes_eq name (codes "run")

-- what `board_still` says of its answer
pub record AnswersStill (words : List (List ℕ)) (c : Call) (result : Status) : Type 0 where
  pub ended : Ended Answers (due words) c result
  pub complete : IfSome c.held_old (λ at. Completes (due words at) c result)
  pub always : Always (row_of words) c result

-- what `board_live` says of its answer
pub record AnswersLive (words : List (List ℕ)) (c : Call) (result : Status) : Type 0 where
  pub ended : Ended LiveAnswers (live_due words) c result
  pub complete : IfSome c.held_old (λ at. LiveCompletes (live_due words at) c result)
  pub always : LiveAlways (live_row_of words) c result

-- what the call of the words says of its answer
abbrev pub AnswersWords : List (List ℕ) → Call → Status → Type 0
AnswersWords words c result =
    MatchBool (is_live words) (AnswersLive words c result) (AnswersStill words c result)

-- the statuses, each at its number
abbrev pub statuses : List Status
statuses = Done ∷ Usage ∷ ReadFault ∷ Refused ∷ WriteFault ∷ NoMemory ∷ []

-- the status whose number an exit status is
abbrev pub ended : ExitCode → Status
ended code = slice_index_or statuses (exit_status code) NoMemory
