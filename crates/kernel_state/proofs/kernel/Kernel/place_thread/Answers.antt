use Rattle.std.proofs.Common.{ap, subst, sym, ◌∙◌}
use Rattle.kernel_state.specs.Kernel.{made_thread}
use Rattle.kernel_state.specs.Sound.{IsSound}
use Rattle.kernel_state.proofs.kernel.Kernel.place_thread.Goals as goal

pub returns-clause-sound : goal.returns-clause-sound
returns-clause-sound c =
    let k = c.args.self.now in
    let made = c.a_kernel_stays_sound.ensures.one_thread_is_made k c.args.o c.args.name c.args.s in
    let after = c.make_thread.ensures ∙ ap (λ slots. made_thread (record k { objects = slots }) c.args.o c.args.s) c.make_live.ensures in
    subst IsSound (sym after) (made c.requires.sound c.requires.empty c.requires.kind (sym c.requires.own) c.requires.name c.requires.at_most c.requires.level)
