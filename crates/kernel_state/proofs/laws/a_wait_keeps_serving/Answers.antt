use Rattle.kernel_state.proofs.Ends.{Below}
use Rattle.kernel_state.proofs.Serving.{begin_keeps_serving, to_front_keeps_serving, wait_end_keeps_serving}
use Rattle.kernel_state.proofs.laws.a_wait_keeps_serving.Goals as goal

pub returns : goal.returns
returns c =
    let own = c.a_call_changes_its_own_alone.ensures in
    let waits = c.a_wait_keeps_sound.ensures in
    let below : Below = record {
      keep_table = c.calls_keep_the_table.ensures.calls;
      keep_wheel = c.calls_keep_the_wheel.ensures.calls;
      keep_running = c.each_has_a_tick_left.ensures.keeps;
      spare_others = own.others;
      armed = own.armed;
      disarmed = own.disarmed;
    } in
    record {
      begins = begin_keeps_serving waits.begins below c.who_waits_at_a_place.ensures.stays;
      ends = wait_end_keeps_serving waits.ends below;
      first = to_front_keeps_serving c.a_kernel_stays_sound.ensures.from below;
    }
