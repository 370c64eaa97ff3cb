-- From how a call ended to what it may answer.
use Rattle.std.proofs.Common.{◌≡◌, ℕ, ◌≤◌, List, Option, Some, None, Result, Ok, Err, IfSome, IfNone, MatchResult, inl, inr, ap, sym, subst, refl}
use Rattle.std.specs.Option.{option_map}
use Rattle.board_run.specs.Answer.{Answers, Completes}
use Rattle.board_run.specs.Call.{Call, Ended, Writes, files_rose, sink_rose}
use Rattle.board_run.specs.Due.{Due, due_of}
use Rattle.board_run.specs.Ending.{Ends}
use Rattle.board_io.specs.Faults.{Rose}
use Rattle.board_io.specs.Sink.{Wrote}
use Rattle.board_run.specs.Step.{◌>>=◌}
use Rattle.board_run.specs.declared.refusal.Stop.{Stop}
use Rattle.board_io.specs.declared.status.Status.{Status}
use Rattle.board_io.specs.declared.status.Status.TheVariants.{Done, Usage, ReadFault as StatusReadFault, Refused as StatusRefused, WriteFault}
use Rattle.board_io.specs.declared.status.Status.TheVariants.{NoMemory as StatusNoMemory}

-- a status that comes with its whole text
pub data IsWhole : Status → Type 0 where
  done : IsWhole Done
  usage : IsWhole Usage
  refused : IsWhole StatusRefused

whole_answers : (due : Due) (c : Call) (status : Status) → IsWhole status → due.status ≡ status → Writes c due.text → Answers due c status
whole_answers due c Done w is text = (is, text)
whole_answers due c Usage w is text = (is, text)
whole_answers due c StatusRefused w is text = (is, text)
whole_answers due c StatusReadFault w is text = elim w [ ]
whole_answers due c WriteFault w is text = elim w [ ]
whole_answers due c StatusNoMemory w is text = elim w [ ]

-- an ending of the call with a text
abbrev EndsIn : Call → List ℕ → (status result : Status) → Type 0
EndsIn c text status result = Ends (sink_rose c) c.written_old c.written_new text status result

-- the status due with its text, or a fault of writing
ends_answers : (due : Due) (c : Call) (text : List ℕ) (status result : Status) → IsWhole status → due ≡ record { status = status; text = text }
    → EndsIn c text status result → Answers due c result
ends_answers due c text status result w is ends =
    let whole_due : Due = record { status = status; text = text } in
    subst (λ d. Answers d c result) (sym is) (elim ends [
      | inl whole ↦ subst (λ r. Answers whole_due c r) (sym whole.0) (whole_answers whole_due c status w refl whole.1)
      | inr fault ↦ subst (λ r. Answers whole_due c r) (sym fault.0) (fault.1, fault.2)
    ])

-- a call whose text was written
written_answers : {A X : Type 0} (first : A → Result X Stop) (text : X → List ℕ) (known : Option A) (c : Call) (x : X) (result : Status)
    → IfSome (option_map first known) (λ d. d ≡ Ok x) → EndsIn c (text x) Done result
    → IfSome known (λ a. Answers (due_of (first a >>= λ y. Ok (text y))) c result)
written_answers first text None c x result is ends = tt
written_answers first text (Some a) c x result is ends =
    ends_answers _ c _ Done result done (ap (λ r. due_of (r >>= λ y. Ok (text y))) is) ends

-- it is no fault of reading
done_untold : {A : Type 0} (known : Option A) (c : Call) (text : List ℕ) (result : Status) → EndsIn c text Done result
    → IfNone known (result ≡ StatusReadFault → files_rose c)
done_untold (Some a) c text result ends = tt
done_untold None c text result ends = λ is. elim ends [ inl whole ↦ absurd (cc) | inr fault ↦ absurd (cc) ]

-- how a call ends whose text was written, or not whole
done_ends : {T E : Type 0} (before now : ℕ) (old new : Option (List ℕ)) (text : List ℕ) (written : Result T E) (result : Status)
    → Wrote before now old new text written → MatchResult written (λ _. result ≡ Done) (λ _. result ≡ WriteFault)
    → Ends (Rose before now) old new text Done result
done_ends before now old new text (Ok v) result wrote is = inl (is, wrote)
done_ends before now old new text (Err e) result wrote is = inr (is, wrote.0, wrote.1)

-- what the files hold stays, and no count falls
pub record Kept (c : Call) : Type 0 where
  pub held : c.held_new ≡ c.held_old
  pub read : c.read_old ≤ c.read_new
  pub written : c.wrote_old ≤ c.wrote_new

-- a command whose text was written, or not whole
pub written_ended : {T E X : Type 0} (first : (List ℕ → Option (List ℕ)) → Result X Stop) (text : X → List ℕ) (c : Call) (x : X)
    (written : Result T E) (result : Status)
    → Kept c → IfSome (option_map first c.held_old) (λ d. d ≡ Ok x) → Wrote c.wrote_old c.wrote_new c.written_old c.written_new (text x) written
    → MatchResult written (λ _. result ≡ Done) (λ _. result ≡ WriteFault) → Ended Answers (λ at. due_of (first at >>= λ x. Ok (text x))) c result
written_ended first text c x written result kept is wrote said =
    let ends = done_ends c.wrote_old c.wrote_new c.written_old c.written_new (text x) written result wrote said in
    record {
      held = kept.held;
      read = kept.read;
      written = kept.written;
      answers = written_answers first text c.held_old c x result is ends;
      untold = done_untold c.held_old c (text x) result ends;
    }

answer_completes : (due : Due) (c : Call) (result : Status) → Answers due c result → Completes due c result
answer_completes due c Done a = inr (inr (inl (sym a.0)))
answer_completes due c Usage a = inr (inr (inl (sym a.0)))
answer_completes due c StatusRefused a = inr (inr (inl (sym a.0)))
answer_completes due c StatusReadFault a =
    elim a.0 [ inl is ↦ inr (inr (inl (sym is))) | inr rose ↦ inl rose ]
answer_completes due c WriteFault a = inr (inl a.0)
answer_completes due c StatusNoMemory a = inr (inr (inr refl))

-- a call that may answer so is complete
pub answers_complete : {A : Type 0} (due : A → Due) (known : Option A) (c : Call) (result : Status) → IfSome known (λ a. Answers (due a) c result)
    → IfSome known (λ a. Completes (due a) c result)
answers_complete due None c result h = tt
answers_complete due (Some a) c result h = answer_completes (due a) c result h
