use Rattle.std.proofs.Common.{sym, ap, ◌∙◌}
use Rattle.rv_core.specs.Execute.{sign_extended}
use Rattle.rv_core.proofs.execute.sign_extended.Goals as goal

pub returns-in-1 : goal.returns-in-1
unfolding sign_extended
returns-in-1 c = c.extended_byte.ensures ∙ ap (λ n. sign_extended n c.args.value) (sym c.in-1.is)

pub returns-in-2 : goal.returns-in-2
unfolding sign_extended
returns-in-2 c = c.extended_half.ensures ∙ ap (λ n. sign_extended n c.args.value) (sym c.in-2.is)
