use Rattle.std.proofs.Common.{◌≡◌, rules, subst, sym, true}
use Rattle.kernel_state.specs.Kernel.{thread}
use Rattle.kernel_state.specs.Serves.{Serves}
use Rattle.kernel_state.specs.Thread.{is_over}
use Rattle.thread_calls.proofs.threads.thread_delete.Goals as goal

pub returns-clause-serves : goal.returns-clause-serves
returns-clause-serves c =
    let k = c.args.k.now in
    let g = c.args.g.now in
    let t = c.in-Some.t in
    let over : is_over (thread k t).state ≡ true = search rules in
    subst (λ now. Serves now g) (sym c.remove_thread.ensures)
    (c.a_change_of_slots_keeps_serving.ensures.removed k g t c.requires.serves c.in-Some.ensures.live over)
