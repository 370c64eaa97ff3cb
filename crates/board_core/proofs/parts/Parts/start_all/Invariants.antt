use Rattle.std.proofs.Common.{◌≡◌, ◌≤◌, drop, length}
use Rattle.tx_types.specs.Limits.{priority_count}
use Rattle.kernel_state.specs.Serves.{Serves}
use Rattle.board_core.specs.Boot.{all_started}
use Rattle.board_core.specs.Laid.{AreLaid}
use Rattle.board_core.specs.Laws.{images_in}
use Rattle.board_core.proofs.parts.Parts.start_all.Given as goal

-- the modules that are left complete the whole
abbrev pub invariant-loop-i : goal.invariant-loop-i
invariant-loop-i l = record {
  due : all_started l.i (drop l.i l.modules) l.self ≡ all_started 0 l.modules l.initial.self;
  serves : Serves l.self.kernel l.self.memory;
  levels : priority_count ≤ l.self.kernel.ready.levels;
  laid : AreLaid l.self.memory l.self.modules;
  count : length l.self.modules ≡ length l.initial.self.modules;
  images : images_in l.self.memory l.self.modules ≡ images_in l.initial.self.memory l.initial.self.modules;
}
