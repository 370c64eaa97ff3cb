use Rattle.std.proofs.Common.{◌≡◌, ℕ, true, Option, IfSome, subst, sym}
use Rattle.object_grants.specs.Table.{slot}
use Rattle.kernel_state.specs.Kernel.{is_live_of}
use Rattle.kernel_state.proofs.NamedIsLive.{named_is_live}
use Rattle.kernel_state.proofs.kernel.Kernel.named.Goals as goal

pub returns-clause-live : goal.returns-clause-live
returns-clause-live c =
    subst (λ (x : Option ℕ). IfSome x (λ o. is_live_of c.args.kind (slot c.args.self.now.objects o) ≡ true)) (sym c.resolve.ensures)
    (named_is_live c.args.self.now.objects c.new.result c.module_of.result c.args.kind)
