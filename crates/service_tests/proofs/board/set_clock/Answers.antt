use Rattle.region_guard.specs.Memory.{Memory}
use Rattle.kernel_state.specs.Serves.{Serves}
use Rattle.service_tests.proofs.Clock.{clock_keeps_sound}
use Rattle.service_tests.proofs.board.set_clock.Goals as goal

pub returns : goal.returns
returns c =
    let k = c.args.k.now in
    let keeps : (g : Memory) → Serves k g → Serves (record k { clock = c.args.clock }) g = λ g serves. record {
      sound = clock_keeps_sound c.a_kernel_stays_sound.ensures.from k c.args.clock serves.sound;
      running = serves.running;
      promised = serves.promised;
    } in
    record { serves = keeps }
