use Rattle.kernel_state.proofs.TickChanges.{tick_keeps_serving}
use Rattle.kernel_state.proofs.laws.a_tick_keeps_serving.Goals as goal

pub returns : goal.returns
returns c =
    let own = c.a_call_changes_its_own_alone.ensures in
    let left = c.each_has_a_tick_left.ensures in
    tick_keeps_serving (record {
      below = record {
        keep_table = c.calls_keep_the_table.ensures.calls;
        keep_wheel = c.calls_keep_the_wheel.ensures.calls;
        keep_running = left.keeps;
        spare_others = own.others;
        armed = own.armed;
        disarmed = own.disarmed;
      };
      ends = c.a_wait_keeps_sound.ensures.ends;
      changes = c.a_kernel_stays_sound.ensures.one_state_changes;
      yields = c.a_move_leaves_others_alone.ensures.yields;
      add_none = left.calls;
      over = c.an_arming_is_over_once.ensures.disarmed;
      take_one = left.turn;
      none_running = left.none;
      tick = c.calls_keep_the_wheel.ensures.ticks;
      leave_due = left.tick;
    })
