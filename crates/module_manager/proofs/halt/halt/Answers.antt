use Rattle.std.proofs.Common.{◌≡◌, rules, subst, sym, ◌∙◌}
use Rattle.kernel_state.specs.Serves.{Serves}
use Rattle.module_manager.specs.Halt.{halted}
use Rattle.module_manager.proofs.halt.halt.Goals as goal

pub returns-clause-same : goal.returns-clause-same
returns-clause-same c =
    let k = c.args.k.now in
    let g = c.args.g.now in
    let after : c.end_ties.new.g ≡ (halted k g c.args.m).memory = search rules in
    after ∙ c.a_halt_spares_other_modules.ensures.memory k g c.args.m

pub returns-clause-serves : goal.returns-clause-serves
returns-clause-serves c =
    let k = c.args.k.now in
    let g = c.args.g.now in
    let after = halted k g c.args.m in
    let serves = c.a_halt_ends_its_module.ensures.serves k g c.args.m c.requires in
    let kernel : c.end_ties.new.k ≡ after.kernel = search rules in
    let memory : c.end_ties.new.g ≡ after.memory = search rules in
    subst (Serves c.end_ties.new.k) (sym memory) (subst (λ j. Serves j after.memory) (sym kernel) serves)
