use Rattle.object_calls.proofs.Written.{written_serves}
use Rattle.object_calls.proofs.objects.put_info.Goals as goal

pub returns-clause-serves : goal.returns-clause-serves
returns-clause-serves c =
    rw c.put_words.ensures
    (written_serves c.a_promised_result_may_be_stored.ensures.stays c.args.k.now c.args.g.now c.args.x c.args.info.now c.requires.serves)
