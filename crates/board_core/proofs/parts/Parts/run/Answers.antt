use Rattle.std.proofs.Common.{◌≡◌, ◌≢◌, ◌<◌, sym, ap, ◌∙◌, arith}
use Rattle.kernel_state.specs.Kernel.{module_of, thread}
use Rattle.rv_core.specs.declared.execute.Out.TheVariants.{Done}
use Rattle.board_core.specs.Burst.{Made, burst_of, hart_at, made_by}
use Rattle.board_core.specs.Step.{after_call, after_fault, ran_on}
use Rattle.board_core.specs.declared.parts.Parts.{Parts}
use Rattle.board_core.proofs.BurstSteps.{burst_ends}
use Rattle.board_core.proofs.Steps.{ends_before, made_calls, made_done, made_faults}
use Rattle.board_core.proofs.parts.Parts.run.Goals as goal
use Rattle.board_core.proofs.parts.Parts.run.Goals.{In-Done, After-execute-ran, in-Call, in-Fault}

-- the burst completed
completed : (c : In-Done)
    → let p = c.args.self.now in
    let b = burst_of p c.args.t c.args.most in
    made_by p c.args.t b b.end ≡ record { steps = b.done; parts = ran_on p c.args.t (hart_at b.end b.hart) b.memory }
completed c =
    let p = c.args.self.now in
    let t = c.args.t in
    let m = module_of p.kernel t in
    let b = burst_of p t c.args.most in
    made_done p t m c.args.most b b.end (burst_ends m c.args.most (thread p.kernel t).hart p.memory) (sym c.execute-ran.ensures.out ∙ c.in-Done.is)

-- or ended earlier
short : (c : After-execute-ran) → c.execute-ran.result.out ≢ Done → c.execute-ran.result.done < c.args.most
short c stops =
    let p = c.args.self.now in
    let m = module_of p.kernel c.args.t in
    let b = burst_of p c.args.t c.args.most in
    let before = ends_before m c.args.most b.done b.hart b.memory b.end (burst_ends m c.args.most (thread p.kernel c.args.t).hart p.memory)
    (λ done. stops (c.execute-ran.ensures.out ∙ done)) in
    omega (arith, before, c.execute-ran.ensures.done)

pub returns-in-Done-clause-steps : goal.returns-in-Done-clause-steps
returns-in-Done-clause-steps c = c.execute-ran.ensures.done ∙ sym (ap (λ (u : Made). u.steps) (completed c))

pub returns-in-Done-clause-parts : goal.returns-in-Done-clause-parts
returns-in-Done-clause-parts c = c.execute-ran.ensures.parts ∙ sym (ap (λ (u : Made). u.parts) (completed c))

pub overflow_add-result : goal.overflow_add-result
overflow_add-result c =
    let at = (goal.at.overflow_add-result c).After-execute-ran in
    let below : c.execute-ran.result.done < c.args.most =
    elim c.match-ran.branch [
      | in-Call w ↦ short at (λ done. let out = sym w.in-Call.is ∙ done in cc)
      | in-Fault w ↦ short at (λ done. let out = sym w.in-Fault.is ∙ done in cc)
    ] in
    omega arith

pub returns-clause-parts : goal.returns-clause-parts
returns-clause-parts c =
    let p = c.args.self.now in
    let t = c.args.t in
    let b = burst_of p t c.args.most in
    elim c.match-ran.branch [
      | in-Call w ↦
          w.self-is ∙ w.call.ensures.parts ∙ ap (λ (q : Parts). after_call q t) c.execute-ran.ensures.parts
          ∙ sym (ap (λ (u : Made). u.parts) (made_calls p t b b.end (sym c.execute-ran.ensures.out ∙ w.in-Call.is)))
      | in-Fault w ↦
          let cause = w.in-Fault.cause in
          w.self-is ∙ w.fault.ensures.parts ∙ ap (λ (q : Parts). after_fault q t cause) c.execute-ran.ensures.parts
          ∙ sym (ap (λ (u : Made). u.parts) (made_faults p t b b.end cause (sym c.execute-ran.ensures.out ∙ w.in-Fault.is)))
    ]
