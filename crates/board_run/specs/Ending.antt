-- How a call ends.
use Rattle.std.specs.Prelude.{◌≡◌, ◌⊎◌, ℕ, List, Option}
use Rattle.std.specs.Io.KnownBytes.{Appends, Keeps}
use Rattle.board_run.specs.Refusal.{refusal_line}
use Rattle.board_io.specs.Sink.{AppendsPrefix}
use Rattle.board_run.specs.declared.refusal.Stop.{Stop}
use Rattle.board_run.specs.declared.refusal.Stop.TheVariants.{ReadFault, Refused, NoMemory}
use Rattle.board_io.specs.declared.status.Status.{Status}
use Rattle.board_io.specs.declared.status.Status.TheVariants.{ReadFault as StatusReadFault}
use Rattle.board_io.specs.declared.status.Status.TheVariants.{Refused as StatusRefused, WriteFault}
use Rattle.board_io.specs.declared.status.Status.TheVariants.{NoMemory as StatusNoMemory}

-- with a status, the text written whole; or with a fault of writing, a prefix of it written
abbrev pub Ends : (sink_rose : Type 0) → (old new : Option (List ℕ)) → List ℕ → Status → Status
    → Type 0
Ends sink_rose old new text status result =
    ((result ≡ status) × Appends old new text)
    ⊎ ((result ≡ WriteFault) × sink_rose × AppendsPrefix old new text)

-- a call that stopped: a refusal is printed, where there is memory for its line, and nothing else
abbrev pub EndsStopped : (sink_rose : Type 0) → (old new : Option (List ℕ)) → Stop → Status → Type 0
EndsStopped sink_rose old new ReadFault result = (result ≡ StatusReadFault) × Keeps old new
EndsStopped sink_rose old new NoMemory result = (result ≡ StatusNoMemory) × Keeps old new
EndsStopped sink_rose old new (Refused refusal) result =
    Ends sink_rose old new (refusal_line refusal) StatusRefused result
    ⊎ ((result ≡ StatusNoMemory) × Keeps old new)
