use Rattle.std.proofs.Common.{◌≡◌, ◌≤◌, replicate, Option, None}
use Rattle.std.specs.Vec.{vec_capacity}
use Rattle.msg_queues.specs.Entry.{Queue}
use Rattle.msg_queues.proofs.queues.Queues.new.Given as goal

abbrev pub invariant-loop : goal.invariant-loop
invariant-loop l = (l.entries.items ≡ replicate {A = Option Queue} l.counter None) × (256 ≤ vec_capacity l.entries)
