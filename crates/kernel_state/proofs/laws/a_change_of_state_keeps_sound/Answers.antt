use Rattle.kernel_state.proofs.Ends.{Below}
use Rattle.kernel_state.proofs.ThreadChanges.{ready_keeps_sound, unready_keeps_sound, held_keeps_sound, fresh_keeps_sound, end_keeps_sound}
use Rattle.kernel_state.proofs.laws.a_change_of_state_keeps_sound.Goals as goal

pub returns : goal.returns
returns c =
    let changes = c.a_kernel_stays_sound.ensures.one_state_changes in
    let moves = c.a_move_leaves_others_alone.ensures in
    let own = c.a_call_changes_its_own_alone.ensures in
    let below : Below = record {
      keep_table = c.calls_keep_the_table.ensures.calls;
      keep_wheel = c.calls_keep_the_wheel.ensures.calls;
      keep_running = c.each_has_a_tick_left.ensures.keeps;
      spare_others = own.others;
      armed = own.armed;
      disarmed = own.disarmed;
    } in
    record {
      ready = ready_keeps_sound changes moves.ready;
      unready = unready_keeps_sound changes moves.unready;
      held = held_keeps_sound changes;
      fresh = fresh_keeps_sound changes;
      ending = end_keeps_sound changes c.a_kernel_stays_sound.ensures.one_wait_changes moves.unready below;
    }
