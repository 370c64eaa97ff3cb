use Rattle.std.proofs.Common.{◌≡◌, [], ◌++◌, map}
use Rattle.std.specs.Vec.Iter.{into_iter_items}
use Rattle.irq_inbox.specs.Rule.{taker, known}
use Rattle.irq_inbox.proofs.inbox.Inbox.gather.Given as goal

abbrev pub invariant-loop-dev : goal.invariant-loop-dev
invariant-loop-dev g l = (goal.iterator-loop-dev g).can_next l.dev-iterator × (goal.iterator-loop-dev g).is_finite l.dev-iterator
    × (l.yielded ++ into_iter_items l.dev-iterator ≡ l.fn.devs.items)
    × (l.pass.table_id ≡ l.self) × (l.pass.me.1 ≡ []) × (known l.pass ≡ taker l.fn.cpu.devices l.fn.cpu.got (map (λ p. p.sent) l.yielded))
