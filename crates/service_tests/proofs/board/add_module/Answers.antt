use Rattle.std.proofs.Common.{rules, subst, sym}
use Rattle.tx_types.specs.declared.kind.Kind.TheVariants.{Thread as ThreadKind}
use Rattle.soft_timers.specs.Timers.{IsRunning}
use Rattle.kernel_state.specs.Contents.{ArePromised}
use Rattle.kernel_state.specs.Serves.{Serves}
use Rattle.kernel_state.specs.Sound.{IsSound}
use Rattle.kernel_state.specs.declared.kernel.Kernel.{Kernel}
use Rattle.service_tests.proofs.board.add_module.Goals as goal

pub add_thread-requires : goal.add_thread-requires
add_thread-requires c =
    let g = c.args.g.now in
    let now = c.set_spot.new.self in
    let after = sym c.set_spot.ensures.after in
    let sound : IsSound now = search rules in
    let first : Serves now g = record {
      sound = sound;
      running = subst (λ (k : Kernel). IsRunning k.wheel) after c.requires.running;
      promised = subst (λ (k : Kernel). ArePromised g k.objects k.queues k.waits) after c.requires.promised;
    } in
    subst (λ slots. Serves (record now { objects = slots }) g) (sym c.allocate.ensures.after)
    (c.a_change_of_slots_keeps_serving.ensures.allocate now g c.args.m ThreadKind first)
