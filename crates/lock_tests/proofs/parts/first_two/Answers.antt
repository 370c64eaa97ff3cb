use Rattle.std.proofs.Common.{sym, ap, ◌∙◌}
use Rattle.std.specs.Prelude.{slice_get}
use Rattle.lock_tests.proofs.parts.first_two.Goals as goal

pub returns-clause-one : goal.returns-clause-one
returns-clause-one c =
    let all = sym c.into_iter-passes.ensures.rest ∙ c.in_ok-one.ensures.items in
    (c.requires.1 0 c.in_ok-one.one (ap (λ l. slice_get l 0) all)).0

pub returns-clause-two : goal.returns-clause-two
returns-clause-two c =
    let all = sym c.into_iter-passes.ensures.rest ∙ c.in_ok-one.ensures.items in
    (c.requires.1 1 c.in_ok-two.two (ap (λ l. slice_get l 1) all ∙ ap (λ l. slice_get l 0) c.in_ok-two.ensures.items)).0
