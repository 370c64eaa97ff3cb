use Rattle.std.proofs.Common.{◌≡◌, nat_lt, slice_index, ◌∙◌}
use Rattle.std.specs.List.{position_or_len}
use Rattle.ready_maps.proofs.ListFacts.{inserted_last}
use Rattle.ready_maps.proofs.lists.put_last.Goals as goal

pub returns-clause-items : goal.returns-clause-items
returns-clause-items c =
    let by = slice_index c.args.by.now in
    let threads = c.args.threads.now.items in
    let place : c.last_place-at.result ≡ position_or_len (λ u. nat_lt (by c.args.t) (by u)) threads = rw
    (← c.priority_of.ensures, ← c.deref.ensures.value) c.last_place-at.ensures.value in
    c.put.ensures.items ∙ rw place (inserted_last by c.args.t threads c.requires.sorted)
