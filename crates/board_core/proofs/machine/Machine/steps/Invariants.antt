use Rattle.std.proofs.Common.{◌≡◌, ◌-◌, ◌≤◌}
use Rattle.event_log.specs.Log.{with_steps}
use Rattle.board_core.proofs.machine.Machine.steps.Given as goal

-- the history has as many steps more as are not left
abbrev pub invariant-loop-left : goal.invariant-loop-left
invariant-loop-left l = record {
  at_most : l.left ≤ l.n;
  made : l.self ≡ record l.fn.self { history = with_steps (l.n - l.left) l.fn.self.history };
}

abbrev pub decreases-loop-left : goal.decreases-loop-left
decreases-loop-left l = l.left
