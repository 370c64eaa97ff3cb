use Rattle.std.proofs.Common.{rules, ◌==◌, not}
use Rattle.std.proofs.lemmas.Fn.{filter_same}
use Rattle.suspend_lists.proofs.thread_list.take_out.Goals as goal

pub returns-clause-items : goal.returns-clause-items
returns-clause-items c = filter_same _ (λ u. not (c.args.t == u)) _ (λ u kept f call. search rules) _ _ c.retain.ensures.filtered
