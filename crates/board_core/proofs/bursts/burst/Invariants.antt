use Rattle.std.proofs.Common.{◌≡◌, ◌-◌}
use Rattle.board_core.specs.Burst.{burst}
use Rattle.board_core.proofs.BurstSteps.{behind}
use Rattle.board_core.proofs.bursts.burst.Given as goal

-- what is left to run completes the whole burst, over the same memory
abbrev pub invariant-loop-done : goal.invariant-loop-done
invariant-loop-done l = record {
  rest : behind l.done (burst l.fn.«module» (l.most - l.done) l.hart l.bus.guard.now) ≡ burst l.fn.«module» l.most l.fn.hart l.fn.guard;
  «module» : l.bus.«module» ≡ l.fn.«module»;
  guard : l.bus.guard.ghost_name ≡ l.initial.bus.guard.ghost_name;
}
