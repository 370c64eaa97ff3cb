-- The text of a report, line by line.
use Rattle.std.specs.Prelude.{ℕ, List, [], ◌∷◌, ◌++◌, Option, None, Some, map, codes, decimal}
use Rattle.std.specs.List.{flat_map}
use Rattle.tx_types.specs.Line.{hex, hex_byte}
use Rattle.tx_types.specs.declared.waits.Totals.{Totals}
use Rattle.board_values.specs.declared.report.Report.{Report}
use Rattle.board_values.specs.declared.report.ModuleRow.{ModuleRow}
use Rattle.board_values.specs.declared.report.FaultRow.{FaultRow}
use Rattle.board_values.specs.declared.report.ThreadRow.{ThreadRow}
use Rattle.board_values.specs.declared.report.ObjectRow.{ObjectRow}
use Rattle.board_values.specs.declared.report.DeviceRow.{DeviceRow}
use Rattle.board_values.specs.declared.report.ShowRow.{ShowRow}
use Rattle.board_report.specs.Parts.{newline, name_text, numbers_text, words_text, cells_text}
use Rattle.board_report.specs.Parts.{running_text, pair_text}

unfoldable pub first_line : List ℕ
first_line = codes "report" ++ newline

-- how many events there were, and the clock
unfoldable pub events_line : Report → List ℕ
events_line r =
    codes "events steps " ++ decimal r.steps ++ codes " irqs " ++ decimal r.irqs
    ++ codes " ticks " ++ decimal r.ticks ++ codes " clock " ++ decimal r.clock ++ newline

unfoldable pub running_line : Option ℕ → List ℕ
running_line running = codes "running " ++ running_text running ++ newline

unfoldable pub held_line : List ℕ → List ℕ
held_line threads = codes "held" ++ numbers_text threads ++ newline

unfoldable pub ready_line : List ℕ → List ℕ
ready_line threads = codes "ready" ++ numbers_text threads ++ newline

-- how many waits began, and how many ended in each way
unfoldable pub waits_line : Totals → List ℕ
waits_line t =
    codes "waits begun " ++ decimal t.begun ++ codes " satisfied " ++ decimal t.satisfied
    ++ codes " timedout " ++ decimal t.timed_out ++ codes " aborted " ++ decimal t.aborted
    ++ codes " deleted " ++ decimal t.deleted ++ codes " gone " ++ decimal t.gone ++ newline

unfoldable pub module_line : ModuleRow → List ℕ
module_line m =
    codes "module " ++ decimal m.«module» ++ codes " " ++ name_text m.name
    ++ codes " state " ++ decimal m.state ++ codes " queued " ++ decimal m.queued
    ++ codes " dropped " ++ decimal m.dropped ++ newline

-- where a thread of this module faulted
unfoldable pub fault_line : ℕ → FaultRow → List ℕ
fault_line number f =
    codes "fault " ++ decimal number ++ codes " thread " ++ decimal f.thread
    ++ codes " cause " ++ decimal f.cause ++ codes " pc " ++ hex f.pc ++ newline

-- which thread it is, and its state
unfoldable pub thread_front : ThreadRow → List ℕ
thread_front t =
    codes "thread " ++ decimal t.thread ++ codes " module " ++ decimal t.«module»
    ++ codes " " ++ name_text t.name ++ codes " state " ++ decimal t.state

-- the user and the effective numbers, then the slice and what remains of it
unfoldable pub thread_numbers : ThreadRow → List ℕ
thread_numbers t =
    pair_text (codes " priority ") t.priority t.effective_priority
    ++ pair_text (codes " threshold ") t.threshold t.effective_threshold
    ++ pair_text (codes " slice ") t.slice t.remaining

unfoldable pub thread_line : ThreadRow → List ℕ
thread_line t = thread_front t ++ thread_numbers t ++ codes " pc " ++ hex t.pc ++ newline

-- x1 to x31
unfoldable pub regs_line : List ℕ → List ℕ
regs_line regs = codes "regs" ++ words_text regs ++ newline

unfoldable pub object_line : ObjectRow → List ℕ
object_line o =
    codes "object " ++ decimal o.object ++ codes " module " ++ decimal o.«module»
    ++ codes " kind " ++ decimal o.kind ++ codes " " ++ name_text o.name
    ++ pair_text (codes " ") o.a o.b ++ codes " " ++ decimal o.c
    ++ codes " waits" ++ numbers_text o.waits ++ newline

unfoldable pub device_line : DeviceRow → List ℕ
device_line d =
    codes "device " ++ decimal d.device ++ codes " " ++ name_text d.name
    ++ codes " taken " ++ decimal d.taken ++ codes " last " ++ hex_byte d.last ++ newline

unfoldable pub show_line : ShowRow → List ℕ
show_line s = codes "show " ++ decimal s.show ++ cells_text s.cells ++ newline

unfoldable pub last_line : List ℕ
last_line = codes "end" ++ newline

-- the lines before the rows
abbrev pub head_lines : Report → List (List ℕ)
head_lines r =
    first_line ∷ events_line r ∷ running_line r.running ∷ held_line r.held ∷ ready_line r.ready
    ∷ waits_line r.totals ∷ []

abbrev pub fault_lines : ℕ → Option FaultRow → List (List ℕ)
fault_lines number None = []
fault_lines number (Some f) = fault_line number f ∷ []

-- a module's line, then that of its fault
abbrev pub module_lines : ModuleRow → List (List ℕ)
module_lines m = module_line m ∷ fault_lines m.«module» m.fault

abbrev pub thread_lines : ThreadRow → List (List ℕ)
thread_lines t = thread_line t ∷ regs_line t.regs ∷ []

-- the lines of a report, in order
unfoldable pub report_lines : Report → List (List ℕ)
report_lines r =
    head_lines r
    ++ flat_map module_lines r.modules
    ++ flat_map thread_lines r.threads
    ++ map object_line r.objects
    ++ map device_line r.devices
    ++ map show_line r.shows
    ++ last_line ∷ []
