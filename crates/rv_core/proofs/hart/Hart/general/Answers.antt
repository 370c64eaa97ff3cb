use Rattle.std.proofs.Common.{drop, ap, ◌∙◌, arith, length-drop}
use Rattle.std.proofs.lemmas.List.{take_all}
use Rattle.rv_core.proofs.hart.Hart.general.Goals as goal

-- the slice from place 1 on is all that is left
pub returns-clause-value : goal.returns-clause-value
returns-clause-value c =
    take_all 31 (drop 1 c.self.inside.x) (omega (arith, c.self.told, length-drop 1 c.self.inside.x)) ∙ ap (λ s. drop 1 s.x) c.self.view_is
