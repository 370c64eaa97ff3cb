use Rattle.std.proofs.Common.{◌≡◌, rules, subst, sym}
use Rattle.kernel_state.specs.Serves.{Serves}
use Rattle.kernel_state.specs.ThreadChanges.{suspended}
use Rattle.kernel_state.proofs.thread_changes.suspend_thread.Goals as goal

pub returns-then-eq-clause-serves : goal.returns-then-eq-clause-serves
returns-then-eq-clause-serves c =
    let k = c.args.k.now in
    let g = c.args.g.now in
    let same : c.make_unready.new.self ≡ (suspended k g c.args.t).kernel = search rules in
    subst (λ now. Serves now g) (sym same) (c.a_change_of_state_keeps_serving.ensures.suspend k g c.args.t c.requires.serves c.requires.live)

pub returns-then-is_waiting-clause-serves : goal.returns-then-is_waiting-clause-serves
returns-then-is_waiting-clause-serves c =
    let k = c.args.k.now in
    let g = c.args.g.now in
    let same : c.set_held.new.self ≡ (suspended k g c.args.t).kernel = search rules in
    subst (λ now. Serves now g) (sym same) (c.a_change_of_state_keeps_serving.ensures.suspend k g c.args.t c.requires.serves c.requires.live)
