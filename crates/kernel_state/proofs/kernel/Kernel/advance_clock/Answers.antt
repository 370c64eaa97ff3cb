use Rattle.std.proofs.Common.{[], refl, subst, sym}
use Rattle.kernel_state.specs.Sound.{IsSound}
use Rattle.kernel_state.proofs.Sound.{time_changes}
use Rattle.kernel_state.proofs.TickChanges.{counted_sound}
use Rattle.kernel_state.proofs.kernel.Kernel.advance_clock.Goals as goal

pub take_turns-requires : goal.take_turns-requires
take_turns-requires c =
    let serves = c.requires.serves in
    record {
      sound =
          subst IsSound (sym c.count_tick.ensures)
          (counted_sound c.calls_keep_the_wheel.ensures.ticks c.args.self.now serves.sound serves.running c.requires.room);
    }

pub treat_slice-requires : goal.treat_slice-requires
treat_slice-requires c =
    let after = c.take_turns.new.self in
    let sound = c.take_turns.ensures.sound in
    record { sound = time_changes [] after after.wheel after.clock c.clear.new.self sound sound.formed.wheel (λ i. refl) }
