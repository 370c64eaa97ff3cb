use Rattle.std.proofs.Common.{nat_lt, slice_index, ◌∙◌}
use Rattle.ready_maps.proofs.ListFacts.{position_or_end}
use Rattle.ready_maps.proofs.lists.last_place.Goals as goal

pub returns-clause-value : goal.returns-clause-value
returns-clause-value c =
    c.unwrap_or.ensures ∙ rw (c.place_above.ensures) (position_or_end (λ u. nat_lt c.args.priority (slice_index c.args.by.now u)) c.args.threads.now)
