use Rattle.std.proofs.Common.{false, [], subst, sym}
use Rattle.std.proofs.lemmas.Bool.{false≢true}
use Rattle.kernel_state.specs.Contents.{ArePromised}
use Rattle.kernel_state.specs.Sound.{IsSound}
use Rattle.kernel_state.specs.declared.kernel.Kernel.{Kernel}
use Rattle.soft_timers.specs.Timers.{IsRunning}
use Rattle.thread_calls.proofs.resuming.resume_object.Goals as goal

pub returns-then-thread-clause-serves : goal.returns-then-thread-clause-serves
returns-then-thread-clause-serves c =
    let law = c.a_change_of_state_keeps_sound.ensures.held in
    record {
      sound =
          subst IsSound (sym c.set_held.ensures)
          (law [] c.args.k.now c.args.o false c.requires.serves.sound c.requires.live (λ held. absurd (false≢true held)));
      running = subst (λ (k : Kernel). IsRunning k.wheel) (sym c.set_held.ensures) c.requires.serves.running;
      promised = subst (λ (k : Kernel). ArePromised c.args.g.now k.objects k.queues k.waits) (sym c.set_held.ensures) c.requires.serves.promised;
    }
