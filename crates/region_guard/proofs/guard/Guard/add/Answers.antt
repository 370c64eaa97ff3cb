use Rattle.std.proofs.Common.{◌≡◌, ◌<◌, length, None, position, subst, sym, ◌∙◌, arith}
use Rattle.region_guard.specs.Memory.{Memory, IsInRam}
use Rattle.region_guard.specs.Region.{meets}
use Rattle.region_guard.proofs.Adding.{IsSound-push}
use Rattle.region_guard.proofs.guard.Guard.add.Goals as goal

pub invariant_of-self : goal.invariant_of-self
invariant_of-self c =
    let regions = c.self.inside.regions in
    let g : Memory = record { regions = regions; bytes = c.self.inside.ram } in
    let none : position (meets c.args.r) regions ≡ None = cc in
    let at_most = c.self.invariant.at_most in
    let same : length c.as_slice-regions.result.now ≡ length regions = cc in
    let free : length regions ≡ 64 → ⊥ = λ full. c.if-regions-from.false (same ∙ full ∙ sym c.from.ensures) in
    let room : length regions < 64 = omega arith in
    let inside = subst (λ (h : Memory). IsInRam h.bytes c.args.r) (sym c.self.view_is) c.requires in
    rw c.push.ensures (IsSound-push g c.args.r c.self.invariant room inside none)
