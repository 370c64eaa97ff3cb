use Rattle.std.proofs.Common.{◌+◌, ◌^◌, ◌≤◌, ◌∙◌}
use Rattle.region_guard.proofs.Own.{own_all, own_any}
use Rattle.region_guard.proofs.regions.Regions.some_lets.Goals as goal

pub some_allows-requires-clause-addressable : goal.some_allows-requires-clause-addressable
some_allows-requires-clause-addressable c =
    own_all (λ r. r.base + r.size ≤ 2 ^ 32) c.args.self.now c.own.result.now c.args.m c.own.ensures c.requires.addressable

pub returns : goal.returns
returns c =
    c.some_allows.ensures ∙ own_any c.args.self.now c.own.result.now c.args.m c.args.access c.args.a c.args.n c.own.ensures
