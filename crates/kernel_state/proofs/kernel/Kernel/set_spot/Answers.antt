use Rattle.std.proofs.Common.{subst, sym}
use Rattle.kernel_state.specs.Sound.{IsSound}
use Rattle.kernel_state.proofs.Sound.{one_spot_changes}
use Rattle.kernel_state.proofs.kernel.Kernel.set_spot.Goals as goal

pub returns-clause-sound : goal.returns-clause-sound
returns-clause-sound c = λ sound right.
    let k = c.args.self.now in
    subst (λ spots. IsSound (record k { spots = spots })) (sym c.set.ensures) (one_spot_changes k c.args.m c.args.now sound right)
