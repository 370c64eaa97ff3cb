use Rattle.std.proofs.Common.{◌≡◌, ◌<◌, ◌≤◌}
use Rattle.thread_tests.proofs.inbox.sixteen_devices_raise_by_turns.Given as goal

-- the pass stays that of the inbox, and nothing is gathered meanwhile
abbrev pub invariant-loop-d : goal.invariant-loop-d
invariant-loop-d g l = (l.cpu.inbox ≡ l.initial.cpu.inbox) × (l.cpu.devices ≡ l.initial.cpu.devices) × (l.cpu.gathered ≡ l.initial.cpu.gathered)
    × (l.turn < 2) × (l.d-counter ≤ 16)

abbrev pub invariant-loop-turn : goal.invariant-loop-turn
invariant-loop-turn g l = (l.cpu.inbox ≡ l.initial.cpu.inbox) × (l.cpu.devices ≡ l.initial.cpu.devices) × (l.cpu.gathered ≡ l.initial.cpu.gathered)
    × (l.turn-counter ≤ 2)
