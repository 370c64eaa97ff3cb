use Rattle.std.proofs.Common.{◌≡◌, ◌<◌, ap, subst, ◌∙◌, get_or}
use Rattle.std.specs.List.{filter}
use Rattle.region_guard.specs.Region.{is_for}
use Rattle.region_guard.proofs.Own.{own_at}
use Rattle.region_guard.proofs.regions.Regions.own.Goals as goal

pub returns : goal.returns
returns c =
    let place : c.from.result ≡ c.args.m = cc in
    let list = c.index.result.now in
    let read = subst (λ m. list ≡ get_or c.self.inside.own.items m list) place c.index.ensures in
    let below = subst (λ m. m < 16) c.number.ensures.same c.number.ensures.below_16 in
    c.as_slice.ensures ∙ own_at c.self.inside.all c.self.inside.own.items c.args.m list c.self.invariant below read
    ∙ ap (filter (is_for c.args.m)) c.self.view_is
