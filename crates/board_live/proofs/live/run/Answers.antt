use Rattle.std.proofs.Common.{inl, inr}
use Rattle.board_run.specs.Call.{call}
use Rattle.board_live.proofs.Living.{run_ended, stop_ended}
use Rattle.board_live.proofs.live.run.Goals as goal

pub returns-in-Err-clause-ended : goal.returns-in-Err-clause-ended
returns-in-Err-clause-ended g c =
    let it =
    call g.F.Files.held g.F.Files.faults c.args.files.now c.boot_board.new.files g.S.Sink.written g.S.Sink.faults c.args.sink.now c.end_stopped.new.sink in
    let read = c.in-Err.ensures in
    let ended = c.end_stopped.ensures in
    stop_ended c.args.board.now it c.in-Err.stop c.end_stopped.result
    (record { held = read.held; read = read.counted; written = ended.counted }) read.origin ended.ends

pub returns-in-Err-clause-always : goal.returns-in-Err-clause-always
returns-in-Err-clause-always g c = inr (c.in-Err.stop, c.end_stopped.ensures.ends)

pub returns-in-Ok-clause-ended : goal.returns-in-Ok-clause-ended
returns-in-Ok-clause-ended g c =
    let it =
    call g.F.Files.held g.F.Files.faults c.args.files.now c.boot_board.new.files g.S.Sink.written g.S.Sink.faults c.args.sink.now c.run_booted.new.sink in
    let read = c.in-Ok.ensures in
    let ran = c.run_booted.ensures in
    run_ended c.args.board.now it c.in-Ok.booted.machine.origin c.run_booted.result
    (record { held = read.held; read = read.counted; written = ran.counted }) read.origin ran.ran

pub returns-in-Ok-clause-always : goal.returns-in-Ok-clause-always
returns-in-Ok-clause-always g c = inl (c.in-Ok.booted.machine.origin, c.run_booted.ensures.ran)
