use Rattle.std.proofs.Common.{arith}
use Rattle.board_run.proofs.Prefixes.{read_whole}
use Rattle.board_run.proofs.reading.file_of.Goals as goal

pub returns-clause-file : goal.returns-clause-file
returns-clause-file g c =
    read_whole _ _ c.args.name.now c.in_ok-bytes.bytes.items (g.F.Files.held c.args.files.now) c.in_ok-bytes.ensures.ok (omega arith)
