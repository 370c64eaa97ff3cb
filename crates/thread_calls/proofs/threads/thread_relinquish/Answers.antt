use Rattle.std.proofs.Common.{IsSome, refl, subst, sym}
use Rattle.thread_calls.proofs.threads.thread_relinquish.Goals as goal

pub returns-clause-serves : goal.returns-clause-serves
returns-clause-serves c =
    let k = c.args.k.now in
    let by = c.args.by in
    let sound = c.requires.serves.sound in
    let who = c.who_runs_is_a_thread.ensures in
    let ready = who.running_is_ready k by sound c.requires.runs in
    let live = who.ready_is_thread k by sound ready in
    let some = subst IsSome (sym c.requires.runs) refl in
    record {
      sound = rw c.yield_run.ensures.after (c.a_change_of_numbers_keeps_sound.ensures.yields k by sound live some);
      running = c.requires.serves.running;
      promised = c.requires.serves.promised;
    }
