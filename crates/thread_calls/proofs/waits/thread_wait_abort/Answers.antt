use Rattle.std.proofs.Common.{◌≡◌, ◌≢◌, rules, subst, sym, true}
use Rattle.tx_types.specs.declared.waits.End.TheVariants.{Aborted, Gone}
use Rattle.kernel_state.specs.Kernel.{thread}
use Rattle.kernel_state.specs.Serves.{Serves}
use Rattle.kernel_state.specs.Thread.{is_waiting}
use Rattle.kernel_state.specs.Waiting.{wait_ended}
use Rattle.thread_calls.proofs.waits.thread_wait_abort.Goals as goal

-- who is aborted isn't gone
goes_on : Aborted ≢ Gone
goes_on same = cc

pub returns-clause-serves : goal.returns-clause-serves
returns-clause-serves c =
    let k = c.args.k.now in
    let g = c.args.g.now in
    let t = c.in-Some.t in
    let waits : is_waiting (thread k t).state ≡ true = search rules in
    let some = c.who_runs_is_a_thread.ensures.waiter_has_wait k t c.requires.serves.sound c.in-Some.ensures.live waits in
    let value = c.empty.result in
    let after = c.a_wait_keeps_serving.ensures.ends k g t Aborted value c.requires.serves some goes_on in
    let left = wait_ended k g t Aborted value in
    subst (λ m. Serves c.end_wait.new.self m) (sym c.end_wait.ensures.memory)
    (subst (λ now. Serves now left.memory) (sym c.end_wait.ensures.kernel) after)
