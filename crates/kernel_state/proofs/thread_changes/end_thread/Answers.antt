use Rattle.std.proofs.Common.{◌≡◌, ap, subst, sym, ◌∙◌}
use Rattle.kernel_state.specs.Serves.{Serves}
use Rattle.kernel_state.specs.ThreadChanges.{ended, over_by}
use Rattle.kernel_state.proofs.thread_changes.end_thread.Goals as goal

pub returns-clause-serves : goal.returns-clause-serves
returns-clause-serves c =
    let k = c.args.k.now in
    let g = c.args.g.now in
    let same : c.end_now.new.k ≡ (ended k g c.args.t c.args.state).kernel = c.end_now.ensures
    ∙ ap (λ j. over_by j c.args.t c.args.state) c.end_its_wait.ensures.kernel in
    let law = c.a_change_of_state_keeps_serving.ensures.ending k g c.args.t c.args.state c.requires.serves c.requires.live c.requires.over in
    subst (λ now. Serves now c.end_its_wait.new.g) (sym same) (subst (Serves (ended k g c.args.t c.args.state).kernel) (sym c.end_its_wait.ensures.memory) law)
