use Rattle.board_core.proofs.LoadingSteps.{rows_placed}
use Rattle.board_core.proofs.loading.memory_with.Goals as goal

pub regions-requires-clause-placed : goal.regions-requires-clause-placed
regions-requires-clause-placed c = rows_placed c.args.rows.now c.requires.laid.placed
