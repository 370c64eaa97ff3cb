use Rattle.thread_calls.proofs.NumberChanges.{Lower, threshold_keeps_sound, priority_keeps_sound, slice_keeps_sound, yield_keeps_sound}
use Rattle.thread_calls.proofs.laws.a_change_of_numbers_keeps_sound.Goals as goal

pub returns : goal.returns
returns c =
    let lower : Lower = record {
      changes = c.a_kernel_stays_sound.ensures.one_thread_changes;
      keeps = c.a_kernel_stays_sound.ensures.one_state_changes;
      right = c.who_runs_is_a_thread.ensures.thread_is_right;
      stays = c.an_effective_pair_fits.ensures.stays;
      fits = c.an_effective_pair_fits.ensures.fits;
    } in
    let moves = c.a_move_leaves_others_alone.ensures in
    record {
      threshold = threshold_keeps_sound lower moves.threshold;
      priority = priority_keeps_sound lower moves.priority;
      slice = slice_keeps_sound lower;
      yields = yield_keeps_sound lower moves.yields;
    }
