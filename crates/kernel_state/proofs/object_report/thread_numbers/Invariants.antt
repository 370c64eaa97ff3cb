use Rattle.std.proofs.Common.{◌≡◌, ◌<◌, All, take}
use Rattle.kernel_state.proofs.object_report.thread_numbers.Given as goal

abbrev pub invariant-loop-t : goal.invariant-loop-t
invariant-loop-t l = (l.ns.items ≡ take l.t-index l.threads) × All (λ n. n < 256) l.ns.items
