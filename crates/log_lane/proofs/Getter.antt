-- A pass that gets, out of its option.
use Rattle.std.proofs.Common.{◌≡◌, Option, Some, [], false, true, subst}
use Rattle.crossbeam_queue.specs.Passes.{Pass}
use Rattle.event_log.specs.declared.entry.Entry.{Entry}
use Rattle.log_lane.specs.Getter.{IsGetter}
use Rattle.log_lane.specs.Rule.{know, known}
use Rattle.log_lane.specs.declared.rule.Know.{Know}

-- what is in the option gets alone
pub is_getter : (o : Option (Pass Entry Know)) (p : Pass Entry Know) → o ≡ Some p → IsGetter o → (p.me.1 ≡ []) × (known p ≡ know false [] true (known p).got)
is_getter o p is kept = subst IsGetter is kept
