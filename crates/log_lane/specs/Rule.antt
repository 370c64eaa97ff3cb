-- The lane rule: what was put is what was got and then what the queue holds. One pass at most puts,
-- and it has the list of what was put; the same of getting.
use Rattle.std.specs.Prelude.{◌≡◌, ℕ, Bool, true, List, ◌++◌}
use mathlib.Core.Option.{some}
use lib.ListN.{get_elem?}
use Rattle.crossbeam_queue.specs.Passes.{Pass, view}
use Rattle.event_log.specs.declared.entry.Entry.{Entry}
use Rattle.log_lane.specs.declared.rule.Know.{Know}

-- whether a pass puts and what it has put, and whether it gets and what it has got
abbrev pub know : Bool → List Entry → Bool → List Entry → Know
know puts put gets got = record { puts = puts; put = put; gets = gets; got = got }

-- what a pass knows
abbrev pub known : Pass Entry Know → Know
known p = view p

-- the pass that puts has the writer's seat and knows what was put, the one that gets has the
-- reader's and knows what was got
abbrev pub Fits : ℕ → ℕ → List Entry → List Entry → ℕ → Know → Type 0
Fits writer reader put got seat v =
    (v.puts ≡ true → (seat ≡ writer) × (v.put ≡ put))
    × (v.gets ≡ true → (seat ≡ reader) × (v.got ≡ got))

-- some entries were put and some of them got, the rest is in the queue, and each pass fits these
abbrev pub Relays : List Entry → List Know → Type 0
Relays items views =
    (writer : ℕ) × (reader : ℕ) × (put : List Entry) × (got : List Entry) × (put ≡ got ++ items)
    × ((seat : ℕ) (v : Know) → get_elem? views seat ≡ some v → Fits writer reader put got seat v)
