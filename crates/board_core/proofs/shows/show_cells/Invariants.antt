use Rattle.std.proofs.Common.{◌≡◌, ◌+◌, ◌*◌}
use Rattle.module_manager.specs.Modules.{module_at}
use Rattle.board_core.specs.Report.{rows_below, show_cell}
use Rattle.board_core.proofs.shows.show_cells.Given as goal

abbrev pub invariant-loop-j : goal.invariant-loop-j
invariant-loop-j l = l.cells.items ≡ rows_below l.j (λ j. show_cell l.guard (module_at l.modules l.show.module) (l.show.offset + 4 * j))
