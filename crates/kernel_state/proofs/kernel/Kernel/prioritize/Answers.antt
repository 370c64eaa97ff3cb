use Rattle.std.proofs.Common.{IsSome, refl, sym, subst, ◌∙◌}
use Rattle.kernel_state.specs.Serves.{Serves}
use Rattle.kernel_state.proofs.Removal.{urgent_is_placed}
use Rattle.kernel_state.proofs.kernel.Kernel.prioritize.Goals as goal

pub to_front-requires : goal.to_front-requires
to_front-requires c =
    let k = c.args.self.now in
    let placed = urgent_is_placed c.who_waits_at_a_place.ensures.each k c.args.o c.in-Some.t c.requires.sound (sym c.most_urgent.ensures ∙ c.in-Some.is) in
    record { waits = subst IsSome (sym placed) refl }

pub returns-in-Some-clause-serves : goal.returns-in-Some-clause-serves
returns-in-Some-clause-serves c = λ g serves.
    let k = c.args.self.now in
    let placed = urgent_is_placed c.who_waits_at_a_place.ensures.each k c.args.o c.in-Some.t c.requires.sound (sym c.most_urgent.ensures ∙ c.in-Some.is) in
    subst (λ w. Serves (record k { waits = w }) g) (sym c.to_front.ensures)
    (c.a_wait_keeps_serving.ensures.first k g c.in-Some.t serves (subst IsSome (sym placed) refl))
