use Rattle.std.proofs.Common.{◌≢◌}
use Rattle.tx_types.specs.declared.waits.End.TheVariants.{Satisfied, Gone}
use Rattle.object_calls.proofs.waits.satisfy.Goals as goal

not_gone : Satisfied ≢ Gone
not_gone same = cc

pub returns-clause-serves : goal.returns-clause-serves
returns-clause-serves c =
    rw c.end_wait.ensures.kernel (rw c.end_wait.ensures.memory
    (c.a_wait_keeps_serving.ensures.ends c.args.k.now c.args.g.now c.args.t Satisfied c.args.value.now c.requires.serves c.requires.waits not_gone))
