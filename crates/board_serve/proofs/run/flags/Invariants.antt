use Rattle.std.proofs.Common.{◌≡◌, ◌≤◌, length, vec_capacity}
use Rattle.board_serve.proofs.run.flags.Given as goal

abbrev pub invariant-loop : goal.invariant-loop
invariant-loop l = (length l.flags.items ≡ l.counter) × (l.counter ≤ l.n) × (l.n ≤ vec_capacity l.flags)
