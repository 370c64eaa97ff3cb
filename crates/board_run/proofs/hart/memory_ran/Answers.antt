use Rattle.std.proofs.Common.{◌≡◌, ℕ, sym, ap, ◌∙◌}
use Rattle.rv_core.specs.Hart.{HartState}
use Rattle.rv_core.specs.declared.execute.Out.{Out}
use Rattle.board_core.specs.Burst.{Burst, before_call, burst, out_at}
use Rattle.board_run.specs.Hart.{end_of, memory_ran}
use Rattle.board_run.specs.declared.hart.End.{End}
use Rattle.board_run.specs.declared.hart.Ran.{Ran}
use Rattle.board_run.proofs.hart.memory_ran.Goals as goal
use Rattle.board_run.proofs.hart.memory_ran.Goals.{in-Done, in-Call, in-Fault}

abbrev the_run : ℕ → End → HartState → Ran
the_run n e h = record { steps = n; end = e; hart = h }

abbrev run_of : Burst → Ran
run_of b = the_run b.done (end_of (out_at b.end)) b.hart

-- a run is its burst
is_run : (b : Burst) (done : ℕ) (out : Out) (end : End) (hart : HartState) → done ≡ b.done → out ≡ out_at b.end → end ≡ end_of out → b.hart ≡ hart
    → the_run done end hart ≡ run_of b
is_run b done out end hart steps ends is at =
    ap (λ n. the_run n end hart) steps
    ∙ (ap (λ (e : End). the_run b.done e hart) (is ∙ ap end_of ends) ∙ ap (the_run b.done (end_of (out_at b.end))) (sym at))

pub returns : goal.returns
unfolding memory_ran
returns c =
    let b = burst c.new.result c.args.most c.args.hart c.args.guard.now in
    let ran = c.burst-ran in
    let same = is_run b ran.result.done ran.result.out c.match-ran.end c.match-ran.hart ran.ensures.done ran.ensures.out in
    let alone : the_run ran.result.done c.match-ran.end c.match-ran.hart ≡ run_of b =
    elim c.match-ran.branch [
      | in-Done w ↦ same (w.end-is ∙ sym (ap end_of w.in-Done.is)) (ran.ensures.stays (λ call. cc) ∙ sym w.hart-is)
      | in-Call w ↦ same (w.end-is ∙ sym (ap end_of w.in-Call.is)) (ran.ensures.call w.in-Call.is ∙ sym (w.hart-is ∙ ap before_call c.hart.view_is))
      | in-Fault w ↦ same (w.end-is ∙ sym (ap end_of w.in-Fault.is)) (ran.ensures.stays (λ call. cc) ∙ sym w.hart-is)
    ] in
    alone ∙ ap (λ m. run_of (burst m c.args.most c.args.hart c.args.guard.now)) c.new.ensures
