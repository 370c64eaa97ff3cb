use Rattle.std.proofs.Common.{subst, sym}
use Rattle.tx_types.specs.declared.kind.Kind.TheVariants.{Semaphore}
use Rattle.region_guard.specs.Memory.{Memory}
use Rattle.kernel_state.specs.Serves.{Serves}
use Rattle.service_tests.proofs.board.reserve.Goals as goal

pub returns : goal.returns
returns c =
    let k = c.args.k.now in
    let keeps : (g : Memory) → Serves k g → Serves (record k { objects = c.allocate.new.self }) g = λ g serves.
    subst (λ slots. Serves (record k { objects = slots }) g) (sym c.allocate.ensures.after)
    (c.a_change_of_slots_keeps_serving.ensures.allocate k g c.args.m Semaphore serves) in
    record { serves = keeps }
