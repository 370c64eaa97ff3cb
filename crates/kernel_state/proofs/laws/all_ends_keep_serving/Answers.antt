use Rattle.kernel_state.proofs.AllEnded.{Places, all_ended_keeps_serving, all_ended_keeps_sound, all_ended_leaves_none}
use Rattle.kernel_state.proofs.laws.all_ends_keep_serving.Goals as goal

pub returns : goal.returns
returns c =
    let places : Places = record { next = c.who_waits_at_a_place.ensures.next; each = c.who_waits_at_a_place.ensures.each } in
    let sound = c.a_wait_keeps_sound.ensures.ends in
    record {
      serves = all_ended_keeps_serving places sound c.a_wait_keeps_serving.ensures.ends;
      sound = all_ended_keeps_sound places sound;
      none = all_ended_leaves_none places sound;
    }
