use Rattle.object_calls.proofs.objects.prioritize.Goals as goal

pub returns-clause-serves : goal.returns-clause-serves
returns-clause-serves c = c.prioritize.ensures.serves c.args.g.now c.requires.serves
