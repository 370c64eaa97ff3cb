use Rattle.std.proofs.Common.{◌≡◌, ◌<◌, ◌∷◌, ◌==◌, length, drop, slice_get, Some, ap, sym, subst, ◌∙◌, arith, true}
use Rattle.std.specs.List.{after_first}
use Rattle.suspend_lists.specs.ThreadList.{has}
use Rattle.suspend_lists.specs.Waits.{waiters}
use Rattle.kernel_state.specs.Kernel.{effective_priority}
use Rattle.kernel_state.specs.Objects.{most_urgent, waiters_of}
use Rattle.kernel_state.proofs.AllEnded.{first_is, first_stands}
use Rattle.kernel_state.proofs.Urgent.{after_the_first, ahead, ahead_of_next, next_stands, walk_finds, walked}
use Rattle.kernel_state.proofs.kernel.Kernel.most_urgent.Goals as goal

pub loop-next-init : goal.loop-next-init
loop-next-init c =
    let k = c.args.self.now in
    let w = k.waits in
    let best = c.in_ok-best.best in
    let ws = waiters_of k c.args.o in
    let f = effective_priority k in
    let rest = drop 1 ws in
    let here : ws ≡ best ∷ rest = first_is ws best (sym c.first.ensures ∙ c.in_ok-best.was) in
    let at = (c.who_waits_at_a_place.ensures.each w c.args.o best c.requires.sound.formed.waits).0
    (subst (λ ts. has best ts ≡ true) (sym here) (first_stands best rest)) in
    let next = c.after-next.ensures ∙ ap (λ p. slice_get (after_first (λ u. best == u) (waiters w p)) 0) at in
    let left : ahead ws c.after-next.result ≡ rest =
    ap (ahead ws) next ∙ (ahead_of_next best ws (c.requires.sound.formed.waits.each_once c.args.o)
    ∙ (ap (after_first (λ u. best == u)) here ∙ after_the_first best rest)) in
    record {
      finds = ap (most_urgent k) here ∙ (walk_finds f best rest ∙ ap (λ ts. Some (walked f best ts)) (sym left));
      stands = λ u is. next_stands best u ws (sym next ∙ is);
    }

pub loop-next-smaller : goal.loop-next-smaller
loop-next-smaller c =
    let k = c.args.self.now in
    let w = k.waits in
    let t = c.in-Some.t in
    let ws = waiters_of k c.args.o in
    let at = (c.who_waits_at_a_place.ensures.each w c.args.o t c.requires.sound.formed.waits).0 (c.loop-next.invariant.stands t c.in-Some.is) in
    let next = c.after-next-in-Some.ensures ∙ ap (λ p. slice_get (after_first (λ u. t == u) (waiters w p)) 0) at in
    let left = ap length (ap (ahead ws) next ∙ ahead_of_next t ws (c.requires.sound.formed.waits.each_once c.args.o)) in
    let more = ap (λ o. length (ahead ws o)) c.in-Some.is in
    let less : length (ahead ws c.after-next-in-Some.result) < length (ahead ws c.loop-next.next) = omega (arith, left, more) in
    less

pub loop-next-preserved : goal.loop-next-preserved
loop-next-preserved c =
    let k = c.args.self.now in
    let w = k.waits in
    let t = c.in-Some.t in
    let best = c.loop-next.best in
    let ws = waiters_of k c.args.o in
    let f = effective_priority k in
    let rest = after_first (λ u. t == u) ws in
    let at = (c.who_waits_at_a_place.ensures.each w c.args.o t c.requires.sound.formed.waits).0 (c.loop-next.invariant.stands t c.in-Some.is) in
    let next = c.after-next-in-Some.ensures ∙ ap (λ p. slice_get (after_first (λ u. t == u) (waiters w p)) 0) at in
    let left : ahead ws c.after-next-in-Some.result ≡ rest =
    ap (ahead ws) next ∙ ahead_of_next t ws (c.requires.sound.formed.waits.each_once c.args.o) in
    record {
      finds = c.loop-next.invariant.finds
          ∙ (ap (λ o. Some (walked f best (ahead ws o))) c.in-Some.is
          ∙ (ap (λ b. Some (walked f b rest)) (sym c.more_urgent-best.ensures) ∙ ap (λ ts. Some (walked f c.more_urgent-best.result ts)) (sym left)));
      stands = λ u is. next_stands t u ws (sym next ∙ is);
    }
