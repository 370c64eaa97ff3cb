use Rattle.std.proofs.Common.{◌≡◌, ◌≤◌, replicate, []}
use Rattle.std.specs.Vec.{vec_capacity}
use Rattle.suspend_lists.proofs.waits.empty_lists.Given as goal

abbrev pub invariant-loop : goal.invariant-loop
invariant-loop l = (l.lists.items ≡ replicate l.counter []) × (272 ≤ vec_capacity l.lists)
