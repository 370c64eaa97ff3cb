-- What `replay` makes of a board and a log, and its text.
use Rattle.std.specs.Prelude.{ℕ, List, ◌++◌, length, Option, Result, Ok}
use Rattle.std.specs.List.{flat_map}
use Rattle.board_core.specs.Report.{report_of}
use Rattle.board_core.specs.Run.{run}
use Rattle.board_report.specs.Report.{report_lines}
use Rattle.board_values.specs.declared.report.Report.{Report}
use Rattle.event_log.specs.LogIn.{log_in}
use Rattle.event_log.specs.Text.{text_of}
use Rattle.event_log.specs.declared.entry.Entry.{Entry}
use Rattle.board_run.specs.Boards.{loaded_at}
use Rattle.board_run.specs.Booting.{booted_from}
use Rattle.board_run.specs.Held.{most_log, file_at}
use Rattle.board_run.specs.Refused.{refused_log}
use Rattle.board_run.specs.Step.{◌>>=◌}
use Rattle.board_run.specs.declared.boards.Loaded.{Loaded}
use Rattle.board_run.specs.declared.refusal.Refusal.TheVariants.{LogTooLarge}
use Rattle.board_run.specs.declared.refusal.Stop.{Stop}
use Rattle.board_run.specs.declared.replay.Replayed.{Replayed}

-- the history in the log of a name, on a board with the given number of devices
unfoldable pub log_at : (devices : ℕ) → List ℕ → (List ℕ → Option (List ℕ))
    → Result (List Entry) Stop
log_at devices name at = do
  bytes ← file_at most_log LogTooLarge name at
  refused_log (log_in devices bytes)

-- a history, and the report of what a board reaches by it
pub record Printed : Type 0 where
  pub history : List Entry
  pub report : Report

-- the history, made on the booted board
unfoldable pub session_of : Loaded → List Entry → Result Printed Stop
session_of l history = do
  origin ← booted_from l
  Ok (record { history = history; report = report_of (run origin history).now })

-- the same of the log of a name
unfoldable pub session_on : Loaded → List ℕ → (List ℕ → Option (List ℕ)) → Result Printed Stop
session_on l log at = do
  history ← log_at (length l.board.devices) log at
  session_of l history

unfoldable pub session_at : (board log : List ℕ) → (List ℕ → Option (List ℕ)) → Result Printed Stop
session_at board log at = do
  l ← loaded_at board at
  session_on l log at

-- a replayed log as a session
abbrev pub session : Replayed → Printed
session r = record { history = r.history.entries; report = r.report }

-- the lines of a report, one after the other
abbrev pub report_text : Report → List ℕ
report_text r = flat_map (λ line. line) (report_lines r)

-- the log, and then the report
unfoldable pub session_text : Printed → List ℕ
session_text s = text_of s.history ++ report_text s.report
