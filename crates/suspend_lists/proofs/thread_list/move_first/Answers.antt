use Rattle.std.proofs.Common.{arith}
use Rattle.suspend_lists.proofs.Lists.{shorter}
use Rattle.suspend_lists.proofs.thread_list.move_first.Goals as goal

pub put_first-requires : goal.put_first-requires
put_first-requires c = let fewer = shorter c.args.t c.args.threads.now.items c.requires.there in grind (arith, fewer)
