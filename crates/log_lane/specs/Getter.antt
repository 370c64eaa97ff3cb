-- A pass that gets, or a blank one.
use Rattle.std.specs.Prelude.{◌≡◌, Option, None, Some, true, false, [], ⊤}
use Rattle.atomic_table.specs.Seated.{TableId}
use Rattle.crossbeam_queue.specs.Passes.{Pass}
use Rattle.event_log.specs.declared.entry.Entry.{Entry}
use Rattle.log_lane.specs.Rule.{know, known}
use Rattle.log_lane.specs.Seen.{GetSeen}
use Rattle.log_lane.specs.declared.rule.Know.{Know}

-- the name of no lane
abbrev pub no_table : TableId
no_table = record {
  words = 0;
  slots = 0;
  views_name = 0;
  atom = 0;
  block = 0;
  offset = 0;
  slot_names = [];
}

-- what contracts see of it
abbrev pub seen_of : Option (Pass Entry Know) → GetSeen
seen_of None = record { live = false; lane = no_table; entries = [] }
seen_of (Some p) = record { live = true; lane = p.table_id; entries = (known p).got }

-- a pass has given back each slot, and gets alone
abbrev pub IsGetter : Option (Pass Entry Know) → Type 0
IsGetter None = ⊤
IsGetter (Some p) = (p.me.1 ≡ []) × (known p ≡ know false [] true (known p).got)
