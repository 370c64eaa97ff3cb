use Rattle.std.proofs.Common.{sym, ◌∙◌}
use Rattle.object_calls.proofs.FirstWaiter.{first_waits, nobody_waits}
use Rattle.object_calls.proofs.instances.put_instance.Goals as goal

pub satisfy-requires-clause-waits : goal.satisfy-requires-clause-waits
satisfy-requires-clause-waits c =
    first_waits c.what_is_in_an_object_changes.ensures.waiter c.args.k.now c.args.o c.in-Some.t c.requires.serves.sound (sym c.first.ensures ∙ c.in-Some.is)

pub set_count-requires-clause-free : goal.set_count-requires-clause-free
set_count-requires-clause-free c = nobody_waits c.args.k.now c.args.o (sym c.first.ensures ∙ c.in-None.is)
