use Rattle.std.proofs.Common.{◌≡◌, ◌==◌, false, arith, sym, ◌∙◌}
use Rattle.std.specs.List.{list_any}
use Rattle.ready_maps.specs.Sched.{pr}
use Rattle.ready_maps.proofs.Facts.{no_holder_at, placed_first_laid}
use Rattle.ready_maps.proofs.state.State.place_again.Goals as goal

pub hold-requires-clause-laid_out : goal.hold-requires-clause-laid_out
hold-requires-clause-laid_out c =
    let s = c.args.self.now in
    let none : list_any (λ k. pr s k == pr s c.args.t) s.held ≡ false = sym c.is_after_holder.ensures ∙ c.if-is_after_holder.false in
    rw c.place_first.ensures (placed_first_laid s c.args.t c.requires.laid_out (omega arith) c.requires.unready (no_holder_at s c.args.t none))
