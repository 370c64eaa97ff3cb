use Rattle.std.proofs.Common.{rules, ◌≡◌, refl, sym, ◌∙◌, arith}
use Rattle.std.proofs.lemmas.List.{length-set}
use Rattle.board_serve.specs.Raised.{IsRunning}
use Rattle.board_serve.specs.Scripts.{script_of}
use Rattle.board_serve.proofs.Lists.{one_set}
use Rattle.board_serve.proofs.Running.{running_as, script_here}
use Rattle.board_serve.proofs.devices.turn_all.Goals as goal

pub loop-at-preserved : goal.loop-at-preserved
loop-at-preserved g c =
    let running = c.loop-at.invariant in
    let at = c.loop-at.at in
    let inbox = c.args.inbox.now in
    let devices = c.args.devices.now in
    let was = c.index_mut.result.now in
    let new = c.turn_one.new.device in
    let script : c.items.result.now ≡ script_of devices at =
    c.items.ensures ∙ script_here devices at at c.index-devices-at.result refl (omega (arith, c.loop-at-test.true)) in
    let before : IsRunning inbox at (script_of devices at) was = search rules in
    let here = c.turn_one.ensures at (running_as was inbox inbox at at _ _ refl refl (sym script) before) in (
      length-set c.loop-at.working.items at new ∙ running.0,
      one_set (λ d v. IsRunning inbox d (script_of devices d) v) c.loop-at.working.items at new running.1
          (running_as new inbox inbox at at _ _ refl refl script here),
    )
