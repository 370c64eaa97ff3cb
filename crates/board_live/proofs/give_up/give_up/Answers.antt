use Rattle.board_live.proofs.Ending.{Laws, Met, got_begun}
use Rattle.board_live.proofs.give_up.give_up.Goals as goal

pub returns : goal.returns
returns g c =
    let closes = c.an_interrupt_closes_an_entry.ensures in
    let stays = c.a_history_stays_one.ensures in
    let apart = c.take_apart.ensures in
    let laws : Laws = record { whole = closes.whole; no_steps_last = closes.no_steps_last; tested = stays.tested; prefix = stays.prefix } in
    let met : Met _ _ _ = record { begun = apart.begun; left = apart.got.0; closed = apart.got.1 } in
    got_begun laws _ _ _ met
