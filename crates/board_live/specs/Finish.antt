-- How a run of a board ends: its history, its text, and what of that is written at the end.
use Rattle.std.specs.Prelude.{◌≡◌, ℕ, ◌-◌, ◌≤◌, List, ◌++◌, length, take, Option, Result, Ok, Err}
use Rattle.std.specs.Bool.{⊤}
use Rattle.std.specs.Io.KnownBytes.{Appends}
use Rattle.board_core.specs.Report.{report_of}
use Rattle.board_core.specs.Run.{Origin, run}
use Rattle.board_core.specs.World.{World}
use Rattle.board_io.specs.Faults.{Rose}
use Rattle.board_io.specs.Sink.{AppendsPrefix}
use Rattle.board_run.specs.Replay.{report_text}
use Rattle.board_serve.specs.Scripts.{script_of}
use Rattle.event_log.specs.Events.{Event, events_of, words_of}
use Rattle.event_log.specs.Log.{IsHistory, step_count, unclosed, with_steps}
use Rattle.event_log.specs.Text.{text_of}
use Rattle.event_log.specs.declared.entry.Entry.{Entry}
use Rattle.board_live.specs.declared.finish.FinishErr.{FinishErr}
use Rattle.board_live.specs.declared.finish.FinishErr.TheVariants.{WriteFault, NoMemory}

-- what a board reaches by a history
abbrev pub reached : Origin → List Entry → World
reached o h = (run o h).now

-- the text of a run: the lines of its history, and then the report of what was reached
abbrev pub run_text : Origin → List Entry → List ℕ
run_text o h = text_of h ++ report_text (report_of (reached o h))

-- a whole run: the words of each device are its script, once and in order, and all steps were made
pub record IsRun (o : Origin) (h : List Entry) : Type 0 where
  pub history : IsHistory (length o.board.devices) h
  pub words : (d : ℕ) → words_of d h ≡ script_of o.board.devices d
  pub steps : step_count h ≡ o.board.steps

-- a run so far: of each device a prefix of its script, and no more steps than the board has
pub record HasBegun (o : Origin) (h : List Entry) : Type 0 where
  pub history : IsHistory (length o.board.devices) h
  pub words : (d : ℕ) → (k : ℕ) × (words_of d h ≡ take k (script_of o.board.devices d))
  pub steps : step_count h ≤ o.board.steps

-- a history begins with the events of another one
abbrev pub GoesOn : (begun h : List Entry) → Type 0
GoesOn begun h = (more : List Event) × (events_of h ≡ events_of begun ++ more)

-- the history with the steps that are left on its board
abbrev pub stepped_out : Origin → List Entry → List Entry
stepped_out o h = with_steps (o.board.steps - step_count h) h

-- the end of a run's text: its open line of steps, and then the report
abbrev pub last_text : Origin → List Entry → List ℕ
last_text o h = text_of (unclosed h) ++ report_text (report_of (reached o h))

-- the end of the text was written, or a prefix of it with a new fault; out of memory, the open line
-- alone was written
abbrev pub WroteEnd : Origin → List Entry → (before now : ℕ) → (old new : Option (List ℕ))
    → Result ⊤ FinishErr → Type 0
WroteEnd o h before now old new (Ok _) = Appends old new (last_text o h)
WroteEnd o h before now old new (Err WriteFault) =
    Rose before now × AppendsPrefix old new (last_text o h)
WroteEnd o h before now old new (Err NoMemory) = Appends old new (text_of (unclosed h))

-- there is a whole run that begins with the events of a history, and the lines of what was got and
-- then the rest are its text
abbrev pub EndsRun : Origin → (begun got : List Entry) → (text : List Entry → List ℕ)
    → (rest : List ℕ) → Type 0
EndsRun o begun got text rest =
    (h : List Entry) × IsRun o h × GoesOn begun h × (text_of got ++ rest ≡ text h)

-- The rest of a run's text was written, or a prefix of it with a new fault. Out of memory, the rest
-- of its log was written, and no report.
abbrev pub HasFinished : Origin → (begun got : List Entry) → (before now : ℕ)
    → (old new : Option (List ℕ)) → Result ⊤ FinishErr → Type 0
HasFinished o begun got before now old new (Ok _) =
    (rest : List ℕ) × EndsRun o begun got (run_text o) rest × Appends old new rest
HasFinished o begun got before now old new (Err WriteFault) =
    (rest : List ℕ) × EndsRun o begun got (run_text o) rest
    × Rose before now × AppendsPrefix old new rest
HasFinished o begun got before now old new (Err NoMemory) =
    (rest : List ℕ) × EndsRun o begun got text_of rest × Appends old new rest
