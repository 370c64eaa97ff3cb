use Rattle.std.proofs.Common.{sym, ◌∙◌}
use Rattle.board_core.proofs.Names.{named_is_thread}
use Rattle.board_core.proofs.parts.Parts.resume_by_name.Goals as goal

pub resume_object-requires-clause-live : goal.resume_object-requires-clause-live
resume_object-requires-clause-live c = named_is_thread c.args.self.now.kernel c.args.name.now c.in-Some.t (sym c.find.ensures ∙ c.in-Some.is)
