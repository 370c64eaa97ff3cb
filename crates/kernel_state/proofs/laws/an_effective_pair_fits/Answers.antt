use Rattle.kernel_state.proofs.Sound.{effective_fits, effective_stays}
use Rattle.kernel_state.proofs.laws.an_effective_pair_fits.Goals as goal

pub returns : goal.returns
returns c = record { stays = effective_stays; fits = effective_fits }
