-- `run BOARD`: its words, what is due before its session begins, and what it may answer.
use Rattle.std.specs.Prelude.{◌≡◌, ◌⊎◌, ℕ, if◌then◌else◌, List, [], ◌∷◌, Option, None, Some, Result}
use Rattle.std.specs.Prelude.{Ok, Err, codes}
use Rattle.std.specs.Io.KnownBytes.{Appends, Keeps}
use Rattle.std.specs.Str.{bytes_eq}
use Rattle.board_core.specs.Run.{Origin}
use Rattle.board_io.specs.Sink.{AppendsPrefix}
use Rattle.board_io.specs.declared.status.Status.{Status}
use Rattle.board_io.specs.declared.status.Status.TheVariants.{Done, Usage, ReadFault, Refused}
use Rattle.board_io.specs.declared.status.Status.TheVariants.{WriteFault, NoMemory}
use Rattle.board_run.specs.Answer.{Answers, Completes}
use Rattle.board_run.specs.Booting.{booted_at}
use Rattle.board_run.specs.Call.{Call, WritesNothing, files_rose, sink_rose}
use Rattle.board_run.specs.Due.{Due, due_of, usage_line}
use Rattle.board_run.specs.Ending.{Ends, EndsStopped}
use Rattle.board_run.specs.declared.refusal.Stop.{Stop}
use Rattle.event_log.specs.Text.{text_of}
use Rattle.event_log.specs.declared.entry.Entry.{Entry}
use Rattle.board_live.specs.Finish.{IsRun, HasBegun, run_text}
use Rattle.board_live.specs.declared.finish.FinishErr.{FinishErr}
use Rattle.board_live.specs.declared.finish.FinishErr.TheVariants as finish

-- the table has one row, run BOARD; the words of other commands are in none
unfoldable pub live_row_of : List (List ℕ) → Option (List ℕ)
live_row_of (name ∷ board ∷ []) = if bytes_eq name (codes "run") then Some board else None
live_row_of _ = None

-- where a session begins, or what is due in its place
abbrev pub begun_or_due : Result Origin Stop → Result Origin Due
begun_or_due (Ok origin) = Ok origin
begun_or_due (Err stop) = Err (due_of (Err stop))

abbrev pub live_row_due : Option (List ℕ) → (List ℕ → Option (List ℕ)) → Result Origin Due
live_row_due None at = Err (record { status = Usage; text = usage_line })
live_row_due (Some board) at = begun_or_due (booted_at board at)

-- the same for the words of a call
abbrev pub live_due : List (List ℕ) → (List ℕ → Option (List ℕ)) → Result Origin Due
live_due words at = live_row_due (live_row_of words) at

-- How a session of a board ends. Done: the text of one run of the board was written, its log and
-- its report. After a fault of writing, which is a new one: a prefix of such a text, or of the log
-- of a run that has begun. Out of memory: nothing was written, or the whole log of a run.
abbrev pub HasRun : Origin → (sink_rose : Type 0) → (old new : Option (List ℕ)) → Status → Type 0
HasRun o sink_rose old new Done = (h : List Entry) × IsRun o h × Appends old new (run_text o h)
HasRun o sink_rose old new Usage = ⊥
HasRun o sink_rose old new ReadFault = ⊥
HasRun o sink_rose old new Refused = ⊥
HasRun o sink_rose old new WriteFault =
    sink_rose × ((h : List Entry) × ((HasBegun o h × AppendsPrefix old new (text_of h))
    ⊎ (IsRun o h × AppendsPrefix old new (run_text o h))))
HasRun o sink_rose old new NoMemory =
    Keeps old new ⊎ ((h : List Entry) × IsRun o h × Appends old new (text_of h))

-- the session of the call
abbrev pub RunsIn : Origin → Call → Status → Type 0
RunsIn o c result = HasRun o (sink_rose c) c.written_old c.written_new result

-- what is due in place of a session; or the session's end, or a fault of reading before it
abbrev pub LiveAnswers : Result Origin Due → Call → Status → Type 0
LiveAnswers (Err due) c result = Answers due c result
LiveAnswers (Ok o) c result =
    RunsIn o c result ⊎ ((result ≡ ReadFault) × files_rose c × WritesNothing c)

-- where no count rose, the answer is the status due, or a session's Done, or out of memory
abbrev pub LiveCompletes : Result Origin Due → Call → Status → Type 0
LiveCompletes (Err due) c result = Completes due c result
LiveCompletes (Ok o) c result =
    files_rose c ⊎ (sink_rose c ⊎ ((result ≡ Done) ⊎ (result ≡ NoMemory)))

-- Words in no row end in Usage with its line. Others don't: a session of some board ended so, or
-- the call stopped before it.
abbrev pub LiveAlways : Option (List ℕ) → Call → Status → Type 0
LiveAlways None c result = Ends (sink_rose c) c.written_old c.written_new usage_line Usage result
LiveAlways (Some board) c result =
    ((o : Origin) × RunsIn o c result)
    ⊎ ((stop : Stop) × EndsStopped (sink_rose c) c.written_old c.written_new stop result)

-- the status of a session that was finished, or not whole
abbrev pub status_of : {T : Type 0} → Result T FinishErr → Status
status_of (Ok _) = Done
status_of (Err finish.WriteFault) = WriteFault
status_of (Err finish.NoMemory) = NoMemory
