use Rattle.std.proofs.Common.{refl, rules}
use Rattle.kernel_state.specs.Objects.{wait_at}
use Rattle.object_calls.proofs.waits.begin.Goals as goal

pub returns-clause-serves : goal.returns-clause-serves
returns-clause-serves c =
    let k = c.args.k.now in
    let by = c.args.by in
    let who = c.who_runs_is_a_thread.ensures in
    let ready = who.running_is_ready k by c.requires.serves.sound c.requires.runs in
    let live = who.ready_is_thread k by c.requires.serves.sound ready in
    let w = wait_at k by c.args.o c.args.asks in
    rw c.begin_wait.ensures.after (rw c.wait_at-wait.ensures
    (c.a_wait_keeps_serving.ensures.begins k c.args.g.now by w c.args.ticks c.requires.serves live ready
    (record { at = search rules; code = refl }) c.requires.promised c.requires.later c.ranges.ticks.fits))
