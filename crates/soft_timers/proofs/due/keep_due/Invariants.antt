use Rattle.std.proofs.Common.{◌≡◌, ◌≤◌, take}
use Rattle.std.specs.Vec.{vec_len, vec_capacity}
use Rattle.soft_timers.specs.Timers.{due_among}
use Rattle.soft_timers.proofs.due.keep_due.Given as goal

abbrev pub invariant-loop-e : goal.invariant-loop-e
invariant-loop-e l = record {
  items : l.due.items ≡ due_among (take l.e-index l.from) l.now;
  short : vec_len l.due ≤ l.e-index;
  same_room : vec_capacity l.due ≡ vec_capacity l.initial.due;
}
