use Rattle.board_live.proofs.Ending.{Laws, Met, StepLaws}
use Rattle.board_live.proofs.Finished.{EndLaws, core_finished}
use Rattle.board_live.proofs.finish.finish.Goals as goal

pub returns-clause-finished : goal.returns-clause-finished
returns-clause-finished g c =
    let closes = c.an_interrupt_closes_an_entry.ensures in
    let grows = c.a_history_grows_by_steps.ensures in
    let stays = c.a_history_stays_one.ensures in
    let apart = c.take_apart-machine.ensures in
    let laws : Laws = record { whole = closes.whole; no_steps_last = closes.no_steps_last; tested = stays.tested; prefix = stays.prefix } in
    let steps : StepLaws = record { words = grows.words; steps = grows.steps; history = stays.steps } in
    let ends : EndLaws = record { closed = closes.steps; events = grows.events } in
    let met : Met _ _ _ = record { begun = apart.begun; left = apart.got.0; closed = apart.got.1 } in
    core_finished laws steps ends _ _ _ _ _ _ _ _ _ _ apart.machine apart.origin met
    c.requires.all c.args.core.holds.rules.steps c.step_out.ensures c.write_end.ensures.wrote
