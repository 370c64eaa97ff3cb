-- The number of each status: what the process exits with.
use Rattle.std.specs.Prelude.{ℕ}
use Rattle.board_io.specs.declared.status.Status.{Status}
use Rattle.board_io.specs.declared.status.Status.TheVariants.{Done, Usage, ReadFault, Refused}
use Rattle.board_io.specs.declared.status.Status.TheVariants.{WriteFault, NoMemory}

abbrev pub number_of : Status → ℕ
number_of Done = 0
number_of Usage = 1
number_of ReadFault = 2
number_of Refused = 3
number_of WriteFault = 4
number_of NoMemory = 5
