use Rattle.std.proofs.Common.{length, slice_index, ap, sym, ◌∙◌, arith}
use Rattle.ready_maps.specs.Sched.{last_in}
use Rattle.ready_maps.proofs.ListFacts.{all_last_more, length-last_in, sorted-last_in}
use Rattle.ready_maps.proofs.lists.put_all.Goals as goal

pub loop-t-preserved : goal.loop-t-preserved
loop-t-preserved c =
    let by = slice_index c.args.by.now in
    let t = c.t-item.result in
    let had = c.loop-t.invariant in
    let items = c.put_last.ensures.items in
    let long = ap length items in
    let one = length-last_in by t c.loop-t.threads.items in (
      items ∙ (ap (last_in by t) had.0 ∙ sym (all_last_more by c.args.threads.now.items c.args.more.now c.loop-t.t-index t c.loop-t-test.true c.t-item.is)),
      rw
          items (sorted-last_in by t c.loop-t.threads.items had.1),
      omega arith,
      c.put_last.ensures.same_room ∙ had.3,
    )
