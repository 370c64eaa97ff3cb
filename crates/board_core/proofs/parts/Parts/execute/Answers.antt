use Rattle.std.proofs.Common.{◌<◌, ap, rules, ◌∙◌}
use Rattle.region_guard.specs.Memory.{Memory}
use Rattle.board_core.specs.Step.{with_hart}
use Rattle.board_core.proofs.BurstSteps.{burst_regions}
use Rattle.board_core.proofs.Running.{serves-with_hart, serves_over}
use Rattle.board_core.proofs.parts.Parts.execute.Goals as goal

pub returns-clause-serves : goal.returns-clause-serves
returns-clause-serves c =
    let k = c.args.self.now.kernel in
    let g = c.args.self.now.memory in
    let below : c.args.t < 256 = search rules in
    let ran = serves-with_hart c.a_kernel_stays_sound.ensures.one_hart_changes k g c.args.t c.burst.new.hart c.requires below in
    let same = ap (λ (now : Memory). now.regions) c.burst.ensures.memory ∙ burst_regions _ _ _ g in
    serves_over c.a_promised_result_may_be_stored.ensures.stays (with_hart k c.args.t c.burst.new.hart) g c.burst.new.guard same ran
