use Rattle.std.proofs.Common.{◌≡◌, ◌≤◌, replicate, Option, None}
use Rattle.std.specs.Vec.{vec_capacity}
use Rattle.suspend_lists.specs.declared.wait.Pending.{Pending}
use Rattle.suspend_lists.proofs.waits.no_waits.Given as goal

abbrev pub invariant-loop : goal.invariant-loop
invariant-loop l = (l.waits.items ≡ replicate {A = Option Pending} l.counter None) × (256 ≤ vec_capacity l.waits)
