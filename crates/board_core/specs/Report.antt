-- What a report says of the board.
use Rattle.std.specs.Prelude.{ℕ, zero, suc, ◌+◌, ◌*◌, nat_le, false, List, [], ◌∷◌, ◌++◌, length}
use Rattle.std.specs.Prelude.{drop, Option, None, Some, if◌then◌else◌}
use Rattle.std.specs.List.{slice_index_or}
use Rattle.std.specs.Option.{option_map, option_to_list}
use Rattle.tx_types.specs.State.{state_number}
use Rattle.board_file.specs.declared.board.Board.{Board}
use Rattle.board_file.specs.declared.board.BoardModule.{BoardModule}
use Rattle.board_file.specs.declared.board.BoardShow.{BoardShow}
use Rattle.board_values.specs.declared.report.DeviceRow.{DeviceRow}
use Rattle.board_values.specs.declared.report.FaultRow.{FaultRow}
use Rattle.board_values.specs.declared.report.ModuleRow.{ModuleRow}
use Rattle.board_values.specs.declared.report.Report.{Report}
use Rattle.board_values.specs.declared.report.ShowRow.{ShowRow}
use Rattle.board_values.specs.declared.report.ThreadRow.{ThreadRow}
use Rattle.call_arguments.specs.Words.{word_at}
use Rattle.kernel_state.specs.Kernel.{thread, is_thread, module_of, effective_priority}
use Rattle.kernel_state.specs.Kernel.{effective_threshold}
use Rattle.kernel_state.specs.ObjectReport.{object_row}
use Rattle.kernel_state.specs.declared.kernel.Kernel.{Kernel}
use Rattle.module_loader.specs.Want.{want_of}
use Rattle.module_manager.specs.Modules.{fault_in, module_at, module_state_number}
use Rattle.module_manager.specs.declared.modules.Fault.{Fault}
use Rattle.module_manager.specs.declared.modules.Module.{Module}
use Rattle.object_grants.specs.Table.{slot}
use Rattle.region_guard.specs.Memory.{Memory}
use Rattle.rv_core.specs.Cause.{cause_number}
use Rattle.board_core.specs.Action.{device_of}
use Rattle.board_core.specs.Devices.{device_at}
use Rattle.board_core.specs.World.{World}
use Rattle.board_core.specs.declared.devices.Device.{Device}

-- what is said of each number below n, from 0 on
unfoldable pub rows_below : {R : Type 0} → ℕ → (ℕ → R) → List R
rows_below zero row = []
rows_below (suc n) row = rows_below n row ++ row n ∷ []

-- what is said of some of the numbers below n, from 0 on
unfoldable pub rows_found : {R : Type 0} → ℕ → (ℕ → Option R) → List R
rows_found zero row = []
rows_found (suc n) row = rows_found n row ++ option_to_list (row n)

-- a module: its name, its state and its fault; no request is queued yet
abbrev pub fault_row : Fault → FaultRow
fault_row f = record { thread = f.thread; cause = cause_number f.cause; pc = f.pc }

abbrev pub board_module : Board → ℕ → BoardModule
board_module b m =
    slice_index_or b.modules m (record { name = []; image = []; start = false })

unfoldable pub module_row : Board → List Module → ℕ → ModuleRow
module_row b ms m = record {
  «module» = m;
  name = (board_module b m).name;
  state = module_state_number (module_at ms m).state;
  queued = 0;
  dropped = 0;
  fault = option_map fault_row (fault_in (module_at ms m).state);
}

-- a thread: its numbers, pc, and x1 to x31
unfoldable pub row_of_thread : Kernel → ℕ → ThreadRow
row_of_thread k t = record {
  thread = t;
  «module» = module_of k t;
  name = (slot k.objects t).name;
  state = state_number (thread k t).state;
  priority = (thread k t).priority;
  effective_priority = effective_priority k t;
  threshold = (thread k t).threshold;
  effective_threshold = effective_threshold k t;
  slice = (thread k t).slice;
  remaining = (thread k t).left;
  pc = (thread k t).hart.pc;
  regs = drop 1 (thread k t).hart.x;
}

unfoldable pub thread_row : Kernel → ℕ → Option ThreadRow
thread_row k t = if is_thread k t then Some (row_of_thread k t) else None

-- a device: how many interrupts of it were taken, and the status of its last action
unfoldable pub device_row : Board → List Device → ℕ → DeviceRow
device_row b ds d = record {
  device = d;
  name = (device_of b d).name;
  taken = (device_at ds d).taken;
  last = (device_at ds d).last;
}

-- the word at an offset of a module's data region; none where it isn't in it
unfoldable pub show_cell : Memory → Module → ℕ → Option ℕ
show_cell g m at =
    if nat_le (at + 4) (want_of m.preamble).data_bytes
    then Some (word_at g (m.placed.data_base + at))
    else None

-- a show: words of a module's data region one after another
abbrev pub show_at : Board → ℕ → BoardShow
show_at b i = slice_index_or b.shows i (record { «module» = 0; offset = 0; words = 0 })

abbrev pub show_cells : Memory → List Module → BoardShow → List (Option ℕ)
show_cells g ms s =
    rows_below s.words (λ j. show_cell g (module_at ms s.module) (s.offset + 4 * j))

abbrev pub show_row : Board → Memory → List Module → ℕ → ShowRow
show_row b g ms i = record { show = i; cells = show_cells g ms (show_at b i) }

-- the whole report
unfoldable pub report_of : World → Report
report_of w =
    let p = w.parts in
    let k = p.kernel in
    record {
      steps = w.steps;
      irqs = w.irqs;
      ticks = k.wheel.ticks;
      clock = k.clock;
      running = k.ready.run;
      held = k.ready.held;
      ready = k.ready.order;
      totals = k.waits.totals;
      modules = rows_below (length p.modules) (module_row w.board p.modules);
      threads = rows_found (length k.objects) (thread_row k);
      objects = rows_found (length k.objects) (object_row k);
      devices = rows_below (length p.devices) (device_row w.board p.devices);
      shows = rows_below (length w.board.shows) (show_row w.board p.memory p.modules);
    }
