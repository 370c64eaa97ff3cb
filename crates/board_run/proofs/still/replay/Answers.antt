use Rattle.board_run.specs.Call.{call}
use Rattle.board_run.specs.Replay.{session, session_at, session_text}
use Rattle.board_run.proofs.Answering.{written_ended}
use Rattle.board_run.proofs.still.replay.Goals as goal

pub returns-in-Ok-clause-ended : goal.returns-in-Ok-clause-ended
returns-in-Ok-clause-ended g c =
    let it =
    call g.F.Files.held g.F.Files.faults c.args.files.now c.replay_log.new.files g.S.Sink.written g.S.Sink.faults c.args.sink.now
    c.write_session.new.sink in
    let read = c.in-Ok.ensures in
    let written = c.write_session.ensures in
    written_ended (session_at c.args.board.now c.args.log.now) session_text it (session c.in-Ok.replayed) c.write_session.result c.end_written.result
    (record { held = read.held; read = read.counted; written = written.counted }) read.session written.wrote c.end_written.ensures
