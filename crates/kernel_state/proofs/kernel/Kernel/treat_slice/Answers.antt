use Rattle.std.proofs.Common.{◌≡◌, Some, true, rules}
use Rattle.kernel_state.specs.Kernel.{thread}
use Rattle.kernel_state.specs.Ticks.{has_slice}
use Rattle.kernel_state.proofs.TickChanges.{slice_left}
use Rattle.kernel_state.proofs.kernel.Kernel.treat_slice.Goals as goal

pub use_slice-requires-clause-some : goal.use_slice-requires-clause-some
use_slice-requires-clause-some c =
    let k = c.args.self.now in
    let t = c.in-Some.t in
    let runs : k.ready.run ≡ Some t = search rules in
    let has : has_slice (thread k t) ≡ true = search rules in
    slice_left k t c.requires.sound runs has
