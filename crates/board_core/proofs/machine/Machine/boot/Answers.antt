use Rattle.std.proofs.Common.{ap}
use Rattle.event_log.specs.Log.{Log}
use Rattle.board_core.specs.Boot.{contents}
use Rattle.board_core.proofs.Booted.{recorded, stands}
use Rattle.board_core.proofs.machine.Machine.boot.Goals as goal

pub invariant_of-result : goal.invariant_of-result
invariant_of-result c =
    let made = c.in_ok-parts.ensures in
    stands c.no_wait_is_lost.ensures.booted c.in_ok-board.board c.args.board.now
    (contents c.args.images.now) c.in_ok-parts.parts c.in_ok-history.history.entries c.in_ok-board.ensures
    c.requires.board made.serves made.laid made.parts made.images made.count (ap (λ (log : Log). log.entries) c.in_ok-history.ensures)

pub returns-clause-booted : goal.returns-clause-booted
returns-clause-booted c =
    recorded c.in_ok-board.board c.args.board.now (contents c.args.images.now) c.in_ok-parts.parts c.in_ok-history.history c.args.max_irqs
    c.in_ok-board.ensures c.in_ok-parts.ensures.images c.in_ok-history.ensures
