use Rattle.kernel_state.proofs.Ends.{Below}
use Rattle.kernel_state.proofs.ThreadChanges.{start_keeps_serving, suspend_keeps_serving, end_keeps_serving, reset_keeps_serving}
use Rattle.kernel_state.proofs.laws.a_change_of_state_keeps_serving.Goals as goal

pub returns : goal.returns
returns c =
    let changes = c.a_kernel_stays_sound.ensures.one_state_changes in
    let moves = c.a_move_leaves_others_alone.ensures in
    let own = c.a_call_changes_its_own_alone.ensures in
    let below : Below = record {
      keep_table = c.calls_keep_the_table.ensures.calls;
      keep_wheel = c.calls_keep_the_wheel.ensures.calls;
      keep_running = c.each_has_a_tick_left.ensures.keeps;
      spare_others = own.others;
      armed = own.armed;
      disarmed = own.disarmed;
    } in
    record {
      start = start_keeps_serving changes moves.ready;
      suspend = suspend_keeps_serving changes moves.unready;
      ending = end_keeps_serving c.a_change_of_state_keeps_sound.ensures.ending below;
      reset = reset_keeps_serving changes;
    }
