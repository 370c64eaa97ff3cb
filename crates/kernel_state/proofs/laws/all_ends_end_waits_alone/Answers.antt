use Rattle.kernel_state.proofs.AllEnded.{Places, all_ended_calls_waits, all_ended_changes_threads, all_ended_ends_them, all_ended_keeps_memory, all_ended_raises_none, all_ended_spares_threads}
use Rattle.kernel_state.proofs.laws.all_ends_end_waits_alone.Goals as goal

pub returns : goal.returns
returns c =
    let places : Places = record { next = c.who_waits_at_a_place.ensures.next; each = c.who_waits_at_a_place.ensures.each } in
    let sound = c.a_wait_keeps_sound.ensures.ends in
    let calls = c.a_change_calls_waits.ensures in
    record {
      calls = all_ended_calls_waits (record { places = places; sound = sound; calls = calls.wait_ends; left = calls.left; followed = calls.followed });
      them = all_ended_ends_them;
      memory = all_ended_keeps_memory c.who_waits_at_a_place.ensures.stays;
      kernel = all_ended_changes_threads;
      threads = all_ended_spares_threads places sound;
      counts = all_ended_raises_none c.a_change_raises_counts_by_one.ensures.wait_ends;
    }
