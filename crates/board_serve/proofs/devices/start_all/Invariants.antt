use Rattle.std.proofs.Common.{◌≡◌, ◌++◌, length, ℕ, ◌<◌, slice_index_or, vec_capacity}
use Rattle.std.specs.Vec.Iter.{into_iter_items}
use Rattle.board_serve.specs.Raised.{IsRunning}
use Rattle.board_serve.specs.Scripts.{script_of}
use Rattle.board_serve.specs.declared.device.Device.{Device}
use Rattle.board_serve.proofs.devices.start_all.Given as goal

-- as many devices are at work as passes were taken, each with its script
abbrev pub invariant-loop-pass : goal.invariant-loop-pass
invariant-loop-pass g l = (goal.iterator-loop-pass g).can_next l.pass-iterator × (goal.iterator-loop-pass g).is_finite l.pass-iterator
    × (l.yielded ++ into_iter_items l.pass-iterator ≡ l.fn.passes.items)
    × (length l.working.items ≡ length l.yielded) × (vec_capacity l.working ≡ vec_capacity l.fn.working)
    × ((d : ℕ) (any : Device) → d < length l.working.items → IsRunning l.inbox d (script_of l.devices d) (slice_index_or l.working.items d any))
