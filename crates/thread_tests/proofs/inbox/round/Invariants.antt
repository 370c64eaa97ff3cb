use Rattle.std.proofs.Common.{◌≡◌, ◌++◌, length}
use Rattle.std.specs.Vec.Iter.{into_iter_items}
use Rattle.irq_inbox.specs.Seen.{AreAllOf}
use Rattle.thread_tests.proofs.inbox.round.Given as goal

-- the passes so far, each with a word more, are those of the first devices
abbrev pub invariant-loop-dev : goal.invariant-loop-dev
invariant-loop-dev g l = (goal.iterator-loop-dev g).can_next l.dev-iterator × (goal.iterator-loop-dev g).is_finite l.dev-iterator
    × AreAllOf l.inbox (length l.yielded) l.back.items × (l.yielded ++ into_iter_items l.dev-iterator ≡ l.fn.devs.items)
