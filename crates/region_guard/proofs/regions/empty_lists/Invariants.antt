use Rattle.std.proofs.Common.{◌≡◌, ◌≤◌, [], replicate}
use Rattle.std.specs.Vec.{vec_capacity}
use Rattle.region_guard.proofs.regions.empty_lists.Given as goal

abbrev pub invariant-loop : goal.invariant-loop
invariant-loop l = (l.lists.items ≡ replicate l.counter []) × (16 ≤ vec_capacity l.lists)
