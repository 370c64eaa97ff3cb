use Rattle.kernel_state.proofs.Scheduling.{ready_changes_one, unready_changes_one, yield_changes_none, threshold_changes_one, priority_changes_one}
use Rattle.kernel_state.proofs.laws.a_move_leaves_others_alone.Goals as goal

pub returns : goal.returns
returns c =
    let facts = c.moves_keep_the_facts.ensures in
    let moves = c.a_move_changes_its_thread_alone.ensures in
    record {
      ready = ready_changes_one facts moves.ready_adds_one moves.ready_keeps_numbers;
      unready = unready_changes_one facts moves.unready_takes_one moves.unready_keeps_numbers;
      yields = yield_changes_none facts moves.yield_keeps_ready moves.yield_keeps_numbers;
      threshold = threshold_changes_one facts moves.threshold_keeps_ready moves.threshold_sets_numbers;
      priority = priority_changes_one facts moves.priority_keeps_ready moves.priority_sets_numbers;
    }
