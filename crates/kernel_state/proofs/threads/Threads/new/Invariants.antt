use Rattle.std.proofs.Common.{◌≡◌, ◌≤◌, replicate}
use Rattle.std.specs.Vec.{vec_capacity}
use Rattle.kernel_state.specs.Thread.{blank_thread}
use Rattle.kernel_state.proofs.threads.Threads.new.Given as goal

abbrev pub invariant-loop : goal.invariant-loop
invariant-loop l = (l.entries.items ≡ replicate l.counter blank_thread) × (256 ≤ vec_capacity l.entries)
