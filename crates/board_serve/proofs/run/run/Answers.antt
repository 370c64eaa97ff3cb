use Rattle.std.proofs.Common.{sym, subst, arith}
use Rattle.std.proofs.KnownBytes.{Appends-nil}
use Rattle.std.specs.Io.KnownBytes.{Appends}
use Rattle.event_log.specs.Text.{text_of}
use Rattle.board_serve.proofs.run.run.Goals as goal

pub returns-in-Ok-drive-clause-served : goal.returns-in-Ok-drive-clause-served
returns-in-Ok-drive-clause-served g c =
    let told = g.S.Sink.written c.args.sink.now in
    let nothing = subst (λ es. Appends told told (text_of es)) (sym c.requires.get.2) (Appends-nil told) in
    let back = c.end_all.ensures c.args.inbox.now c.args.board.now.devices c.drive.ensures.running in
    (c.in-Ok-drive.ensures.all, c.in-Ok-drive.ensures.wrote (g.S.Sink.faults c.args.sink.now) told (omega arith) nothing, back.0, back.1)

pub returns-clause-served : goal.returns-clause-served
returns-clause-served g c =
    let told = g.S.Sink.written c.args.sink.now in
    let nothing = subst (λ es. Appends told told (text_of es)) (sym c.requires.get.2) (Appends-nil told) in
    let back = c.end_all-in-Err.ensures c.args.inbox.now c.args.board.now.devices c.drain.ensures in
    let wrote = c.in-Err.ensures.wrote (g.S.Sink.faults c.args.sink.now) told (omega arith) nothing in
    (wrote.0, wrote.1, back.0, back.1)
