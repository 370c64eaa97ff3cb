-- A core that was taken apart, whose machine then made the steps that were left.
use Rattle.std.proofs.Common.{◌≡◌, ℕ, ◌-◌, ◌≤◌, List, ◌++◌, replicate, Option, Result, subst, ◌∙◌}
use Rattle.std.specs.Bool.{⊤}
use Rattle.board_core.specs.Machine.{Recorded}
use Rattle.board_core.specs.Run.{Origin}
use Rattle.board_serve.specs.Got.{HasAll}
use Rattle.event_log.specs.Events.{events_of, Step}
use Rattle.event_log.specs.Log.{closed, step_count, with_steps}
use Rattle.event_log.specs.declared.entry.Entry.{Entry}
use Rattle.board_live.specs.Finish.{HasFinished, WroteEnd, stepped_out}
use Rattle.board_live.specs.declared.finish.FinishErr.{FinishErr}
use Rattle.board_live.proofs.Ending.{Laws, Met, StepLaws, all_got, run_ended}
use Rattle.board_live.proofs.Texts.{finished, log_text, wrote_of}

-- what is said of the end of a history after steps
pub record EndLaws : Type 0 where
  pub closed : (n : ℕ) (es : List Entry) → closed (with_steps n es) ≡ closed es
  pub events : (n : ℕ) (es : List Entry) → events_of (with_steps n es) ≡ events_of es ++ replicate n Step

pub core_finished : (laws : Laws) (steps : StepLaws) (ends : EndLaws) (o : Origin) (core m m' : Recorded) (got : List Entry)
    (before now : ℕ) (old new : Option (List ℕ)) (r : Result ⊤ FinishErr)
    → m ≡ core → m.origin ≡ o → Met o m.history got → HasAll o.board.devices got → o.board.steps ≤ 100000000
    → m' ≡ record m { history = stepped_out m.origin m.history } → WroteEnd m'.origin m'.history before now old new r
    → HasFinished o core.history got before now old new r
core_finished laws steps ends o core m m' got before now old new r same its met all most is w =
    let h = stepped_out o m.history in
    let left = o.board.steps - step_count m.history in
    let run = run_ended laws steps o m.history got met all most in
    let whole = ends.closed left m.history ∙ all_got laws o m.history got met all in
    subst (λ (x : Recorded). HasFinished o x.history got before now old new r) same
    (finished o m.history got h before now old new r run (_, ends.events left m.history)
    (log_text laws.whole h got whole) (wrote_of o m m' before now old new r its is w))
