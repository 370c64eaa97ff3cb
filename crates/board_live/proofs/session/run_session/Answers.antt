-- What was served is of the session, whose board and inbox these are.
use Rattle.std.proofs.Common.{length, sym, subst}
use Rattle.atomic_table.specs.Seated.{TableId}
use Rattle.board_file.specs.declared.board.Board.{Board}
use Rattle.board_io.specs.Faults.{Rose}
use Rattle.board_serve.specs.Raised.{HaveSentOf}
use Rattle.irq_inbox.specs.Seen.{AreAllOf}
use Rattle.board_live.proofs.Sessions.{finished_run}
use Rattle.board_live.specs.Live.{HasRun}
use Rattle.board_live.proofs.session.run_session.Goals as goal

pub finish-requires-clause-devs : goal.finish-requires-clause-devs
finish-requires-clause-devs g c κs within =
    let (all, text, devs, sent) = c.in-Done.ensures.served in
    let here = subst (λ (i : TableId). AreAllOf i (length c.args.board.now.devices) c.in-Done.devs.items) c.requires.inbox devs in
    subst (λ (b : Board). AreAllOf g.O.Session.inbox (length b.devices) c.in-Done.devs.items) c.requires.board.0 here

pub finish-requires-clause-sent : goal.finish-requires-clause-sent
finish-requires-clause-sent g c κs within =
    let (all, text, devs, sent) = c.in-Done.ensures.served in
    subst (λ (b : Board). HaveSentOf b.devices c.in-Done.devs.items) c.requires.board.0 sent

pub give_up-requires-clause-devs : goal.give_up-requires-clause-devs
give_up-requires-clause-devs g c κs within =
    let (rose, text, devs, sent) = c.in-WriteFault.ensures.served in
    let here = subst (λ (i : TableId). AreAllOf i (length c.args.board.now.devices) c.in-WriteFault.devs.items) c.requires.inbox devs in
    subst (λ (b : Board). AreAllOf g.O.Session.inbox (length b.devices) c.in-WriteFault.devs.items) c.requires.board.0 here

pub give_up-requires-clause-sent : goal.give_up-requires-clause-sent
give_up-requires-clause-sent g c κs within =
    let (rose, text, devs, sent) = c.in-WriteFault.ensures.served in
    subst (λ (b : Board). HaveSentOf b.devices c.in-WriteFault.devs.items) c.requires.board.0 sent

pub returns-in-Done-clause-ran : goal.returns-in-Done-clause-ran
returns-in-Done-clause-ran g c =
    let (all, text, devs, sent) = c.in-Done.ensures.served in
    let faults = g.S.Sink.faults in
    let told = g.S.Sink.written in
    let was = c.args.sink.now in
    let mid = c.serve-served.new in
    let now = c.finish.new.sink in
    let ran =
    finished_run g.O.Session.origin c.into_inner-core.result.machine.history mid.get.entries (faults was) (faults mid.sink) (faults now) (told was)
    (told mid.sink) (told now) c.finish.result
    c.serve-served.ensures.faults text c.finish.ensures.finished in
    subst (λ r. HasRun g.O.Session.origin (Rose (faults was) (faults now)) (told was) (told now) r) (sym c.end_finished.ensures) ran
