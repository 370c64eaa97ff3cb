use Rattle.std.proofs.Common.{◌≡◌, ◌++◌, ◌∷◌, [], length, append_assoc, subst, sym, ap, ◌∙◌, arith}
use Rattle.std.proofs.lemmas.List.{length-append}
use Rattle.board_serve.specs.Raised.{IsRunning}
use Rattle.board_serve.specs.Scripts.{script_of}
use Rattle.board_serve.proofs.Ended.{IsBack, all_back}
use Rattle.board_serve.proofs.Lists.{one_more}
use Rattle.board_serve.proofs.Running.{device_next}
use Rattle.board_serve.proofs.devices.end_all.Goals as goal

pub loop-device-preserved : goal.loop-device-preserved
loop-device-preserved g c =
    let (can, finite, rest, some, len, capacity, back) = c.loop-device.invariant in
    let before = c.loop-device.yielded in
    let passes = c.loop-device.passes.items in
    let v = c.in-Some.device in
    let p = c.end_one.result in
    let all = ap (λ l. before ++ l) (sym c.in-Some.ensures.steps.0) ∙ rest in (
      tt,
      tt,
      append_assoc before (v ∷ []) _ ∙ all,
      omega (arith, some, c.in-Some.ensures.steps.1, length-append before (v ∷ [])),
      omega (arith, ap length c.push_reserved.ensures.items, length-append passes (p ∷ []), length-append before (v ∷ []), len),
      c.push_reserved.ensures.capacity ∙ capacity,
      λ inbox devices run.
          let here = subst (λ n. IsRunning inbox n (script_of devices n) v) (sym len) (device_next inbox devices _ before _ v run all) in
          rw c.push_reserved.ensures.items
          (one_more (IsBack inbox devices) passes p (back inbox devices run)
          (c.end_one.ensures inbox (length passes) (script_of devices (length passes)) here)),
    )

pub returns : goal.returns
returns g c inbox devices run =
    let (can, finite, rest, some, len, capacity, back) = c.loop-device.invariant in
    let whole : length c.loop-device.yielded ≡ length c.args.working.items = omega (arith, some, c.in-None.ensures.steps.0) in
    all_back inbox devices c.loop-device.passes.items (len ∙ (whole ∙ run.0)) (back inbox devices run)
