use Rattle.std.proofs.Common.{rules, ◌≡◌, ◌++◌, ◌∷◌, [], ◌<◌, length, append_assoc, sym, ap, ◌∙◌, arith}
use Rattle.std.proofs.lemmas.List.{length-append}
use Rattle.board_serve.specs.Raised.{IsRunning}
use Rattle.board_serve.specs.Scripts.{script_of}
use Rattle.board_serve.proofs.Lists.{one_more, inside}
use Rattle.board_serve.proofs.Running.{running_as, next_of, script_here}
use Rattle.board_serve.proofs.devices.start_all.Goals as goal

pub loop-pass-preserved : goal.loop-pass-preserved
loop-pass-preserved g c =
    let (can, finite, rest, len, capacity, running) = c.loop-pass.invariant in
    let before = c.loop-pass.yielded in
    let working = c.loop-pass.working.items in
    let inbox = c.args.inbox.now in
    let devices = c.args.devices.now in
    let new = c.start_one.result in
    let all = ap (λ l. before ++ l) (sym c.in-Some.ensures.steps.0) ∙ rest in
    let next = next_of inbox _ _ before _ c.in-Some.pass c.requires.passes all in
    let at : c.len-at.result ≡ length working = search rules in
    let lt : length working < length devices = omega (arith, len, inside c.args.passes.items before _ c.in-Some.pass all, c.requires.passes.0) in
    let script : c.items.result.now ≡ script_of devices (length working) =
    c.items.ensures ∙ script_here devices c.len-at.result (length working) c.index-devices-at.result at lt in
    let here = running_as new c.in-Some.pass.inbox inbox c.in-Some.pass.number (length working) _ _ next.0 (next.1 ∙ sym len) script c.start_one.ensures in (
      tt,
      tt,
      append_assoc before (c.in-Some.pass ∷ []) _ ∙ all,
      omega (arith, ap length c.push_reserved.ensures.items, length-append working (new ∷ []), length-append before (c.in-Some.pass ∷ []), len),
      c.push_reserved.ensures.capacity ∙ capacity,
      rw c.push_reserved.ensures.items (one_more (λ d v. IsRunning inbox d (script_of devices d) v) working new running here),
    )
