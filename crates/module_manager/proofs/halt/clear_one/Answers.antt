use Rattle.std.proofs.Common.{◌≡◌, true, ap, subst, sym, ◌∙◌}
use Rattle.std.proofs.lemmas.Bool.{cond-true}
use Rattle.object_grants.specs.Slot.{owns}
use Rattle.object_grants.specs.Table.{slot}
use Rattle.kernel_state.specs.Change.{Change, quiet}
use Rattle.kernel_state.specs.Serves.{Serves}
use Rattle.kernel_state.specs.declared.kernel.Kernel.{Kernel}
use Rattle.module_manager.specs.Halt.{AreOver, clearing, freed, removed_by_kind, then_freed}
use Rattle.module_manager.proofs.halt.clear_one.Goals as goal

pub returns-then-may_delete-clause-serves : goal.returns-then-may_delete-clause-serves
returns-then-may_delete-clause-serves c =
    let k = c.args.k.now in
    let g = c.args.g.now in
    let o = c.args.o in
    let own : owns c.args.m (slot k.objects o) ≡ true = sym c.may_delete.ensures ∙ c.if-may_delete.true in
    let after = clearing c.args.m k g o in
    let is : after ≡ then_freed (removed_by_kind k g o) o =
    cond-true (owns c.args.m (slot k.objects o)) (then_freed (removed_by_kind k g o) o) (quiet k g) own in
    let now : Kernel = record c.remove_by_kind.new.k { objects = c.free.new.self } in
    let kernel : now ≡ after.kernel = ap (λ slots. record c.remove_by_kind.new.k { objects = slots }) c.free.ensures
    ∙ (ap (λ j. freed j o) c.remove_by_kind.ensures.kernel ∙ sym (ap (λ (d : Change). d.kernel) is)) in
    let memory : c.remove_by_kind.new.g ≡ after.memory = c.remove_by_kind.ensures.memory ∙ sym (ap (λ (d : Change). d.memory) is) in
    let kept = c.a_halt_ends_its_module.ensures.clearing k g c.args.m o c.requires.serves c.requires.over in
    subst (Serves now) (sym memory) (subst (λ j. Serves j after.memory) (sym kernel) kept.0)

pub returns-then-may_delete-clause-over : goal.returns-then-may_delete-clause-over
returns-then-may_delete-clause-over c =
    let k = c.args.k.now in
    let g = c.args.g.now in
    let o = c.args.o in
    let own : owns c.args.m (slot k.objects o) ≡ true = sym c.may_delete.ensures ∙ c.if-may_delete.true in
    let after = clearing c.args.m k g o in
    let is : after ≡ then_freed (removed_by_kind k g o) o =
    cond-true (owns c.args.m (slot k.objects o)) (then_freed (removed_by_kind k g o) o) (quiet k g) own in
    let now : Kernel = record c.remove_by_kind.new.k { objects = c.free.new.self } in
    let kernel : now ≡ after.kernel = ap (λ slots. record c.remove_by_kind.new.k { objects = slots }) c.free.ensures
    ∙ (ap (λ j. freed j o) c.remove_by_kind.ensures.kernel ∙ sym (ap (λ (d : Change). d.kernel) is)) in
    subst (λ j. AreOver j c.args.m) (sym kernel) (c.a_halt_ends_its_module.ensures.clearing k g c.args.m o c.requires.serves c.requires.over).1
