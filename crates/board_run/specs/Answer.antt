-- What a call may answer, by what is due.
use Rattle.std.specs.Prelude.{◌≡◌, ◌⊎◌, Option, Some, None}
use Rattle.board_run.specs.Call.{Call, Writes, WritesPrefix, WritesNothing, files_rose, sink_rose}
use Rattle.board_run.specs.Command.{Row}
use Rattle.board_run.specs.Due.{Due, usage_line}
use Rattle.board_run.specs.Ending.{Ends}
use Rattle.board_io.specs.declared.status.Status.{Status}
use Rattle.board_io.specs.declared.status.Status.TheVariants.{Done, Usage, ReadFault, Refused}
use Rattle.board_io.specs.declared.status.Status.TheVariants.{WriteFault, NoMemory}

-- The status due, with its text written whole. Or a fault of reading, with nothing written; a fault
-- of writing, with a prefix of the text written; or out of memory, with nothing written.
abbrev pub Answers : Due → Call → Status → Type 0
Answers due c Done = (due.status ≡ Done) × Writes c due.text
Answers due c Usage = (due.status ≡ Usage) × Writes c due.text
Answers due c Refused = (due.status ≡ Refused) × Writes c due.text
Answers due c ReadFault = ((due.status ≡ ReadFault) ⊎ files_rose c) × WritesNothing c
Answers due c WriteFault = sink_rose c × WritesPrefix c due.text
Answers due c NoMemory = WritesNothing c

-- What holds of the answer of a command also where it isn't known what the files hold.
abbrev pub Settles : Call → Status → Type 0
Settles c Done = Unit {0}
Settles c Usage = ⊥
Settles c Refused = Unit {0}
Settles c ReadFault = WritesNothing c
Settles c WriteFault = sink_rose c
Settles c NoMemory = WritesNothing c

-- Words in no row of the table end in Usage with its line, and no other words do.
abbrev pub Always : Option Row → Call → Status → Type 0
Always None c result = Ends (sink_rose c) c.written_old c.written_new usage_line Usage result
Always (Some row) c result = Settles c result

-- Where no count rose, the answer is the status due, or out of memory.
abbrev pub Completes : Due → Call → Status → Type 0
Completes due c result =
    files_rose c ⊎ (sink_rose c ⊎ ((result ≡ due.status) ⊎ (result ≡ NoMemory)))
