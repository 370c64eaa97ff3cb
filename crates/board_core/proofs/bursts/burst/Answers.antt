use Rattle.std.proofs.Common.{◌≡◌, ◌≢◌, ◌+◌, ◌-◌, Some, sym, ap, subst, ◌∙◌, arith, rules}
use Rattle.rv_core.specs.Execute.{Effect, executed, out_of}
use Rattle.rv_core.specs.declared.execute.Out.TheVariants.{Done}
use Rattle.board_core.specs.Burst.{Burst, before_call, burst, hart_at, out_at}
use Rattle.board_core.specs.Bus.{seen}
use Rattle.board_core.proofs.BurstSteps.{KeepsBus, behind, burst_more, burst_stops, called_back, keeps_bus, no_call_stays, stop_keeps}
use Rattle.board_core.proofs.bursts.burst.Goals as goal
use Rattle.board_core.proofs.bursts.burst.Goals.{In_default}

pub loop-done-preserved : goal.loop-done-preserved
loop-done-preserved c =
    let at = c.loop-done in
    let e = executed (seen at.bus.«module» at.bus.guard.now) at.hart in
    let kept : KeepsBus e at.bus c.step.new.bus = subst (KeepsBus e at.bus) (sym c.step.ensures.bus) (keeps_bus e at.bus) in
    let done = sym c.step.ensures.out ∙ c.in-Done.is in
    record {
      rest = ap (λ m. behind (at.done + 1) (burst m (c.args.most - (at.done + 1)) c.step.new.hart c.step.new.bus.guard.now)) (sym at.invariant.«module»)
          ∙ burst_more at.bus.«module» at.done c.args.most at.hart c.step.new.hart at.bus.guard.now c.step.new.bus.guard.now
          c.loop-done-test.true done c.step.ensures.hart kept.memory
          ∙ ap (λ m. behind at.done (burst m (c.args.most - at.done) at.hart at.bus.guard.now)) at.invariant.«module»
          ∙ at.invariant.rest;
      «module» = kept.«module» ∙ at.invariant.«module»;
      guard = kept.guard ∙ at.invariant.guard;
    }

-- all instructions completed
pub returns-clause-memory : goal.returns-clause-memory
returns-clause-memory c =
    let at = c.loop-done in
    let none : c.args.most - at.done ≡ 0 = omega arith in
    let memory : at.bus.guard.now ≡ (burst c.args.«module» c.args.most c.args.hart.now c.args.guard.now).memory =
    ap (λ n. (behind at.done (burst c.args.«module» n at.hart at.bus.guard.now)).memory) (sym none) ∙ ap (λ (b : Burst). b.memory) at.invariant.rest in
    search (rules, memory)

-- an instruction didn't complete
abbrev effect : In_default → Effect
effect c = executed (seen c.loop-done.bus.«module» c.loop-done.bus.guard.now) c.loop-done.hart

stops : (c : In_default) → out_of (effect c) ≢ Done
stops c = λ done. c.in_default.not-Done (c.step.ensures.out ∙ done)

stopped : (c : In_default) → burst c.args.«module» c.args.most c.args.hart.now c.args.guard.now
    ≡ record { done = c.loop-done.done; hart = c.loop-done.hart; memory = c.loop-done.bus.guard.now; end = Some (effect c) }
stopped c =
    let at = c.loop-done in
    sym at.invariant.rest
    ∙ ap (λ m. behind at.done (burst m (c.args.most - at.done) at.hart at.bus.guard.now)) (sym at.invariant.«module»)
    ∙ burst_stops at.bus.«module» at.done c.args.most at.hart at.bus.guard.now c.loop-done-test.true (stops c)

pub returns-in_default-clause-done : goal.returns-in_default-clause-done
returns-in_default-clause-done c = sym (ap (λ (b : Burst). b.done) (stopped c))

pub returns-in_default-clause-out : goal.returns-in_default-clause-out
returns-in_default-clause-out c = c.step.ensures.out ∙ sym (ap (λ (b : Burst). out_at b.end) (stopped c))

pub returns-in_default-clause-hart : goal.returns-in_default-clause-hart
returns-in_default-clause-hart c = c.step.ensures.hart ∙ sym (ap (λ (b : Burst). hart_at b.end b.hart) (stopped c))

pub returns-in_default-clause-memory : goal.returns-in_default-clause-memory
returns-in_default-clause-memory c =
    let at = c.loop-done in
    let kept : KeepsBus (effect c) at.bus c.step.new.bus = subst (KeepsBus (effect c) at.bus) (sym c.step.ensures.bus) (keeps_bus (effect c) at.bus) in
    let memory : c.step.new.bus.guard.now ≡ (burst c.args.«module» c.args.most c.args.hart.now c.args.guard.now).memory =
    kept.memory ∙ stop_keeps (effect c) at.bus.guard.now (stops c) ∙ sym (ap (λ (b : Burst). b.memory) (stopped c)) in
    let same = kept.guard ∙ at.invariant.guard in
    search (rules, memory, same)

pub returns-in_default-clause-call : goal.returns-in_default-clause-call
returns-in_default-clause-call c = λ is.
    ap (λ (b : Burst). b.hart) (stopped c)
    ∙ called_back c.loop-done.hart c.pc_is_a_word.ensures
    ∙ sym (ap before_call (c.step.ensures.call is))

pub returns-in_default-clause-stays : goal.returns-in_default-clause-stays
returns-in_default-clause-stays c = λ no.
    ap (λ (b : Burst). b.hart) (stopped c)
    ∙ sym (c.step.ensures.hart ∙ no_call_stays (effect c) c.loop-done.hart (stops c) (λ is. no (c.step.ensures.out ∙ is)))
