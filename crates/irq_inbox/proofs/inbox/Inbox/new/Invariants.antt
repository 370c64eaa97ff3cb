use Rattle.std.proofs.Common.{◌≡◌, ◌≤◌, [], vec_capacity}
use Rattle.crossbeam_queue.specs.Passes.{IsPassOf, ruled_capacity}
use Rattle.irq_inbox.specs.Rule.{taker, known}
use Rattle.irq_inbox.specs.Seen.{AreAllOf, HaveSentNothing}
use Rattle.irq_inbox.proofs.inbox.Inbox.new.Given as goal

abbrev pub invariant-loop-number : goal.invariant-loop-number
invariant-loop-number g l = IsPassOf l.queue l.pass × (known l.pass ≡ taker l.number [] [])
    × AreAllOf l.queue.table.shared.table_id l.number l.devs.items × HaveSentNothing l.devs.items
    × (l.number ≤ l.devices) × (l.devices ≤ 16) × (l.devices ≤ vec_capacity l.devs) × (ruled_capacity l.queue ≡ 256)
