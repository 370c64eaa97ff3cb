use Rattle.std.proofs.Common.{◌≡◌, ◌++◌, ◌+◌, length, List, vec_capacity}
use Rattle.std.specs.Vec.Iter.{into_iter_items, into_iter_len}
use Rattle.atomic_table.specs.Seated.{TableId}
use Rattle.board_file.specs.declared.board.BoardDevice.{BoardDevice}
use Rattle.board_serve.proofs.Ended.{AreBack}
use Rattle.board_serve.specs.Raised.{AreRunning}
use Rattle.board_serve.proofs.devices.end_all.Given as goal

-- as many passes are back as devices were waited for, each of its device
abbrev pub invariant-loop-device : goal.invariant-loop-device
invariant-loop-device g l = (goal.iterator-loop-device g).can_next l.device-iterator × (goal.iterator-loop-device g).is_finite l.device-iterator
    × (l.yielded ++ into_iter_items l.device-iterator ≡ l.fn.working.items)
    × (length l.yielded + into_iter_len l.device-iterator ≡ length l.fn.working.items)
    × (length l.passes.items ≡ length l.yielded) × (vec_capacity l.passes ≡ vec_capacity l.fn.passes)
    × ((inbox : TableId) (devices : List BoardDevice) → AreRunning inbox devices l.fn.working.items → AreBack inbox devices l.passes.items)
