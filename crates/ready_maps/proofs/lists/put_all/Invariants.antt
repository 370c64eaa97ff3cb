use Rattle.std.proofs.Common.{◌≡◌, ◌+◌, ◌≤◌, AllPairs, length, fold, take, slice_index, vec_capacity}
use Rattle.ready_maps.specs.Sched.{last_in}
use Rattle.ready_maps.proofs.lists.put_all.Given as goal

abbrev pub invariant-loop-t : goal.invariant-loop-t
invariant-loop-t l =
    let by = slice_index l.by in
    (l.threads.items ≡ fold (λ ts t. last_in by t ts) l.initial.threads.items (take l.t-index l.more)) × AllPairs (λ u v. by u ≤ by v) l.threads.items
    × (length l.threads.items ≡ length l.initial.threads.items + l.t-index) × (vec_capacity l.threads ≡ vec_capacity l.initial.threads)
