use Rattle.kernel_state.proofs.thread_changes.reset_thread.Goals as goal

pub returns-clause-serves : goal.returns-clause-serves
returns-clause-serves c =
    let law = c.a_change_of_state_keeps_serving.ensures.reset in
    rw c.thread_mut-thread.ensures.value (law c.args.k.now c.args.g.now c.args.t c.requires.serves c.requires.live c.requires.over)
