use Rattle.std.proofs.Common.{◌≡◌, ap, subst, sym, ◌∙◌}
use Rattle.kernel_state.specs.Serves.{Serves}
use Rattle.kernel_state.specs.Readying.{made_ready}
use Rattle.kernel_state.specs.ThreadChanges.{started}
use Rattle.kernel_state.proofs.thread_changes.start_thread.Goals as goal

pub returns-clause-kernel : goal.returns-clause-kernel
returns-clause-kernel c = c.make_ready.ensures.after ∙ ap (λ k. made_ready k c.args.t) c.set_fresh.ensures

pub returns-clause-serves : goal.returns-clause-serves
returns-clause-serves c =
    let k = c.args.k.now in
    let g = c.args.g.now in
    let same : c.make_ready.new.self ≡ (started k g c.args.t).kernel = c.make_ready.ensures.after ∙ ap (λ k. made_ready k c.args.t) c.set_fresh.ensures in
    subst (λ now. Serves now g) (sym same) (c.a_change_of_state_keeps_serving.ensures.start k g c.args.t c.requires.serves c.requires.live c.requires.suspended)
