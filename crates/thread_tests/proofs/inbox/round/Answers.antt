use Rattle.std.proofs.Common.{◌≡◌, ℕ, [], ◌∷◌, ◌++◌, sym, ap, ◌∙◌, append_assoc}
use Rattle.std.specs.Vec.Iter.{into_iter_items}
use Rattle.irq_inbox.specs.Seen.{DevSeen}
use Rattle.thread_tests.proofs.Passes.{one_back}
use Rattle.thread_tests.proofs.inbox.round.Goals as goal

pub loop-dev-preserved : goal.loop-dev-preserved
loop-dev-preserved g c =
    let before = c.loop-dev.yielded in
    let dev = c.in-Some.dev in
    let rest = into_iter_items c.next.new.self in
    let back = c.loop-dev.back.items in
    let so = c.loop-dev.invariant.2 in
    let same = c.raise.ensures.same in
    let first = ap (λ l. before ++ l) (sym c.in-Some.ensures.steps.0) ∙ c.loop-dev.invariant.3 in
    let F = λ (d : ℕ) (x : DevSeen). (x.inbox ≡ c.args.inbox.now) × (x.number ≡ d) in
    let all = one_back F c.args.devs.items before rest back c.push.new.self.items dev c.raise.new.pass c.requires.1 first so.0 so.1
    (λ d h. (same.0 ∙ h.0, same.1 ∙ h.1)) c.in_ok-push.ensures.items in
    (tt, tt, all, append_assoc before (dev ∷ []) rest ∙ first)
