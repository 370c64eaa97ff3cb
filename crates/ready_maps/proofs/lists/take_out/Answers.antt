use Rattle.std.proofs.Common.{rules, ◌==◌, not}
use Rattle.std.proofs.lemmas.Fn.{filter_same}
use Rattle.ready_maps.proofs.lists.take_out.Goals as goal

pub returns-clause-items : goal.returns-clause-items
returns-clause-items c = filter_same _ (λ u. not (u == c.args.t)) _ (λ u kept f call. search rules) _ _ c.retain.ensures.filtered
