use Rattle.std.proofs.Common.{sym, ◌∙◌}
use Rattle.thread_calls.proofs.SlotChanges.{found_is_live}
use Rattle.thread_calls.proofs.objects.object_pointer_get.Goals as goal

pub grant-requires-clause-live : goal.grant-requires-clause-live
grant-requires-clause-live c = found_is_live _ _ _ _ (sym c.find.ensures ∙ c.in-Some-find.is)
