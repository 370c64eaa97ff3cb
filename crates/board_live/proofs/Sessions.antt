-- How a session ends, by how it was served and how it was finished.
use Rattle.std.proofs.Common.{ℕ, ◌≤◌, List, Option, Result, Ok, Err, inr, subst, arith}
use Rattle.std.specs.Bool.{⊤}
use Rattle.std.proofs.KnownBytes.{Appends-trans}
use Rattle.std.specs.Io.KnownBytes.{Appends}
use Rattle.board_core.specs.Run.{Origin}
use Rattle.board_io.specs.Faults.{Rose}
use Rattle.board_io.specs.Sink.{AppendsPrefix}
use Rattle.event_log.specs.Text.{text_of}
use Rattle.event_log.specs.declared.entry.Entry.{Entry}
use Rattle.board_live.proofs.Texts.{prefix_after}
use Rattle.board_live.specs.Finish.{HasFinished}
use Rattle.board_live.specs.Live.{HasRun, status_of}
use Rattle.board_live.specs.declared.finish.FinishErr.{FinishErr}
use Rattle.board_live.specs.declared.finish.FinishErr.TheVariants.{WriteFault, NoMemory}

-- the lines of what was got were written, and then the end of the run
pub finished_run : (o : Origin) (begun got : List Entry) (first before now : ℕ) (start old new : Option (List ℕ)) (r : Result ⊤ FinishErr)
    → first ≤ before → Appends start old (text_of got) → HasFinished o begun got before now old new r → HasRun o (Rose first now) start new (status_of r)
finished_run o begun got first before now start old new (Ok v) le wrote h =
    let (rest, (run, is, on, text), more) = h in
    (run, is, subst (Appends start new) text (Appends-trans start old new (text_of got) rest wrote more))
finished_run o begun got first before now start old new (Err WriteFault) le wrote h =
    let (rest, (run, is, on, text), rose, more) = h in
    (omega (arith, rose, le), (run, inr (is, subst (AppendsPrefix start new) text (prefix_after start old new (text_of got) rest wrote more))))
finished_run o begun got first before now start old new (Err NoMemory) le wrote h =
    let (rest, (run, is, on, text), more) = h in
    inr (run, is, subst (Appends start new) text (Appends-trans start old new (text_of got) rest wrote more))
