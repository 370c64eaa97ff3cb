-- The trace of events: its world is what the events make of the first one, and a report counts its ends.
use Rattle.std.proofs.Common.{◌≡◌, List, [], ◌∷◌, refl, sym, fold}
use Rattle.event_log.specs.Events.{Event}
use Rattle.board_core.specs.After.{after}
use Rattle.board_core.specs.Laws.{TotalsAreOfEnded}
use Rattle.board_core.specs.Report.{report_of}
use Rattle.board_core.specs.Trace.{Traced, next}

pub now_is : (t : Traced) (es : List Event) → (fold next t es).now ≡ fold after t.now es
now_is t [] = refl
now_is t (e ∷ es) = now_is (next t e) es

pub totals_are_of_ended : TotalsAreOfEnded
unfolding report_of
totals_are_of_ended t tallied = (tallied.counted, sym tallied.whole)
