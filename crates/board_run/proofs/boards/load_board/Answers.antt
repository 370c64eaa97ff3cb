use Rattle.board_run.proofs.Loading.{exits, load_gives, load_stops, rose_before}
use Rattle.board_run.proofs.Step.{stops_after}
use Rattle.board_run.specs.Boards.{board_at, loaded_at}
use Rattle.board_run.proofs.boards.load_board.Goals as goal

pub returns-in_err-board-clause-loaded : goal.returns-in_err-board-clause-loaded
unfolding loaded_at
returns-in_err-board-clause-loaded g c =
    exits (λ l. l) _ _ _ _ c.from_residual.ensures.1
    (stops_after (board_at c.args.name.now) _ (g.F.Files.held c.args.files.now) _ _ c.in_err-board.ensures.board)

pub returns-in_err-images-clause-loaded : goal.returns-in_err-images-clause-loaded
returns-in_err-images-clause-loaded g c =
    exits (λ l. l) _ _ _ _ c.from_residual-in_err-images.ensures.1
    (load_stops c.args.name.now (g.F.Files.held c.args.files.now) (g.F.Files.held c.board_of.new.files) _ _ c.in_ok-board.board c.items.result.now _
    c.in_ok-board.ensures.held c.items.ensures (rose_before _ _ _ c.in_ok-board.ensures.counted) c.in_ok-board.ensures.board c.in_err-images.ensures.images)

pub returns-clause-loaded : goal.returns-clause-loaded
returns-clause-loaded g c =
    load_gives c.args.name.now (g.F.Files.held c.args.files.now) (g.F.Files.held c.board_of.new.files) c.in_ok-board.board c.items.result.now
    c.in_ok-images.images c.in_ok-board.ensures.held c.items.ensures c.in_ok-board.ensures.board c.in_ok-images.ensures.images
