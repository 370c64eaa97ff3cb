use Rattle.std.proofs.Common.{ap, sym, ◌∙◌}
use Rattle.kernel_state.specs.Change.{Change}
use Rattle.kernel_state.specs.Kernel.{placed}
use Rattle.kernel_state.specs.ThreadChanges.{started}
use Rattle.thread_calls.proofs.Created.{created-auto}
use Rattle.thread_calls.proofs.create.make.Goals as goal

pub returns-then-b-eq1-clause-kernel : goal.returns-then-b-eq1-clause-kernel
returns-then-b-eq1-clause-kernel c =
    let k = c.args.k.now in
    let g = c.args.g.now in
    let placed_by = c.place_thread.ensures.after ∙ ap (placed k c.args.o c.args.name) c.spec_of-spec.ensures in
    c.start_thread.ensures.kernel
    ∙ (ap (λ now. (started now g c.args.o).kernel) placed_by ∙ ap
    (λ (x : Change). x.kernel) (sym (created-auto k g c.args.by c.args.o c.args.name c.args.b.now c.if-b-eq1.true)))
