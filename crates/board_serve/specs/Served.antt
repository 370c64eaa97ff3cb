-- How a board was served.
use Rattle.std.specs.Prelude.{ℕ, List, length, Option}
use Rattle.std.specs.Io.KnownBytes.{Appends, Keeps}
use Rattle.atomic_table.specs.Seated.{TableId}
use Rattle.board_file.specs.declared.board.BoardDevice.{BoardDevice}
use Rattle.board_io.specs.Faults.{Rose}
use Rattle.board_io.specs.Sink.{AppendsPrefix}
use Rattle.event_log.specs.Text.{text_of}
use Rattle.event_log.specs.declared.entry.Entry.{Entry}
use Rattle.irq_inbox.specs.Seen.{AreAllOf}
use Rattle.board_serve.specs.Got.{HasAll}
use Rattle.board_serve.specs.Raised.{HaveSentOf}
use Rattle.board_serve.specs.declared.served.Served.{Served}
use Rattle.board_serve.specs.declared.served.Served.TheVariants.{Done, WriteFault, NoMemory}

-- what was written between two states of a sink, by its count of faults and its bytes, where these
-- entries were got from the lane:
-- done, all words were got, and their lines were written;
-- after a fault, which is a new one, a prefix of the lines was written;
-- with both all passes of the inbox's devices come back, each with a prefix of its script sent;
-- out of memory, nothing was written
abbrev pub HasServed : TableId → List BoardDevice → (before now : ℕ)
    → (old new : Option (List ℕ)) → List Entry → Served → Type 0
HasServed inbox devices before now old new got (Done passes) =
    HasAll devices got × Appends old new (text_of got)
    × AreAllOf inbox (length devices) passes.items × HaveSentOf devices passes.items
HasServed inbox devices before now old new got (WriteFault passes) =
    Rose before now × AppendsPrefix old new (text_of got)
    × AreAllOf inbox (length devices) passes.items × HaveSentOf devices passes.items
HasServed inbox devices before now old new got NoMemory = Keeps old new
