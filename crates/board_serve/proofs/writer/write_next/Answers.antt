use Rattle.std.proofs.Common.{ap}
use Rattle.std.proofs.lemmas.Result.{err_from_is_err_and}
use Rattle.log_lane.specs.Seen.{GetSeen}
use Rattle.board_serve.proofs.Lines.{line_failed}
use Rattle.board_serve.proofs.writer.write_next.Goals as goal

pub returns-in_err-write_entry-clause-wrote : goal.returns-in_err-write_entry-clause-wrote
returns-in_err-write_entry-clause-wrote g c first start le so_far =
    let faults = g.S.Sink.faults in
    let told = g.S.Sink.written in
    let p = err_from_is_err_and c.from_residual.result c.from_residual.ensures.1 in
    let more = ap (λ (v : GetSeen). v.entries) c.in-Some.ensures.some in
    rw (
      p.1,
      more,
    ) (line_failed first (faults c.args.sink.now) (faults c.write_entry.new.sink) start (told c.args.sink.now)
    (told c.write_entry.new.sink) c.args.get.now.entries c.in-Some.e le so_far c.in_err-write_entry.ensures.wrote)
