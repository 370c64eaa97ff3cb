use Rattle.std.proofs.Common.{◌≡◌, drop}
use Rattle.kernel_state.specs.Sound.{IsSound}
use Rattle.kernel_state.specs.Ticks.{turns}
use Rattle.kernel_state.proofs.kernel.Kernel.take_turns.Given as goal

-- what is left has its turns from here on as it would have had
abbrev pub invariant-loop-i : goal.invariant-loop-i
invariant-loop-i l = record {
  kernel : (turns (drop l.i l.self.due) l.self l.g).kernel ≡ (turns l.initial.self.due l.initial.self l.initial.g).kernel;
  memory : (turns (drop l.i l.self.due) l.self l.g).memory ≡ (turns l.initial.self.due l.initial.self l.initial.g).memory;
  due : l.self.due ≡ l.initial.self.due;
  sound : IsSound l.self;
}
