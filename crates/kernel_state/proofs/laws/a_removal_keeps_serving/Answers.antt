use Rattle.kernel_state.proofs.Removal.{Ends, prioritized_keeps_serving, removed_keeps_serving, removed_keeps_sound}
use Rattle.kernel_state.proofs.laws.a_removal_keeps_serving.Goals as goal

pub returns : goal.returns
returns c =
    let all = c.all_ends_keep_serving.ensures in
    let ends : Ends = record { serving = all.serves; sound = all.sound; none = all.none } in
    record {
      removed = removed_keeps_serving ends c.what_is_in_an_object_changes.ensures.emptied;
      sound = removed_keeps_sound ends c.what_is_in_an_object_changes.ensures.emptied_sound;
      prioritized = prioritized_keeps_serving c.who_waits_at_a_place.ensures.each c.a_wait_keeps_serving.ensures.first;
    }
