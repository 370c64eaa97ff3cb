-- What a call of `run` may answer, from how it was begun and how it ended.
use Rattle.std.proofs.Common.{◌≡◌, ℕ, ◌≤◌, List, Option, Some, None, Result, Ok, Err, IfSome, IfNone, inl, inr, refl, sym, subst}
use Rattle.std.specs.Option.{option_map}
use Rattle.board_core.specs.Run.{Origin}
use Rattle.board_io.specs.declared.status.Status.{Status}
use Rattle.board_io.specs.declared.status.Status.TheVariants.{Done, Usage, ReadFault as StatusReadFault, Refused as StatusRefused, WriteFault}
use Rattle.board_io.specs.declared.status.Status.TheVariants.{NoMemory as StatusNoMemory}
use Rattle.board_run.specs.Answer.{Answers, Completes}
use Rattle.board_run.specs.Booting.{booted_at}
use Rattle.board_run.specs.Call.{Call, Ended, WritesNothing, files_rose, sink_rose}
use Rattle.board_run.specs.Due.{Due, due_of}
use Rattle.board_run.specs.Ending.{Ends, EndsStopped}
use Rattle.board_run.specs.Reading.{Stops}
use Rattle.board_run.specs.Refusal.{refusal_line}
use Rattle.board_run.specs.declared.refusal.Stop.{Stop}
use Rattle.board_run.specs.declared.refusal.Stop.TheVariants.{ReadFault, Refused, NoMemory}
use Rattle.board_live.specs.Live.{LiveAnswers, LiveCompletes, RunsIn, begun_or_due}

-- what a command keeps: what the files hold stays, and no count falls
pub record Kept (c : Call) : Type 0 where
  pub held : c.held_new ≡ c.held_old
  pub read : c.read_old ≤ c.read_new
  pub written : c.wrote_old ≤ c.wrote_new

-- an ending of the call with a text, and one with a stop
abbrev EndsIn : Call → List ℕ → (status result : Status) → Type 0
EndsIn c text status result = Ends (sink_rose c) c.written_old c.written_new text status result

abbrev StopsIn : Call → Stop → Status → Type 0
StopsIn c stop result = EndsStopped (sink_rose c) c.written_old c.written_new stop result

-- a fault of reading, and out of memory, whatever is due
read_fault : (d : Result Origin Due) (c : Call) (result : Status) → result ≡ StatusReadFault → files_rose c → WritesNothing c → LiveAnswers d c result
read_fault (Ok o) c result is rose nothing = inr (is, rose, nothing)
read_fault (Err due) c result is rose nothing = subst (λ r. Answers due c r) (sym is) (inr rose, nothing)

no_memory : (d : Result Origin Due) (c : Call) (result : Status) → result ≡ StatusNoMemory → WritesNothing c → LiveAnswers d c result
no_memory (Ok o) c result is nothing = inl (subst (λ r. RunsIn o c r) (sym is) (inl nothing))
no_memory (Err due) c result is nothing = subst (λ r. Answers due c r) (sym is) nothing

-- the line of a refusal, or a fault of writing
refused : (line : List ℕ) (c : Call) (result : Status) → EndsIn c line StatusRefused result → Answers (record { status = StatusRefused; text = line }) c result
refused line c result ends = elim ends [
  | inl whole ↦ subst (λ r. Answers (record { status = StatusRefused; text = line }) c r) (sym whole.0) (refl, whole.1)
  | inr fault ↦ subst (λ r. Answers (record { status = StatusRefused; text = line }) c r) (sym fault.0) (fault.1, fault.2)
]

-- a call that stopped before its session
stop_answers : (board : List ℕ) (known : Option (List ℕ → Option (List ℕ))) (c : Call) (stop : Stop) (result : Status)
    → Stops (option_map (booted_at board) known) (files_rose c) stop → StopsIn c stop result
    → IfSome known (λ at. LiveAnswers (begun_or_due (booted_at board at)) c result)
stop_answers board None c stop result why ends = tt
stop_answers board (Some at) c ReadFault result why ends = elim why [
  | inl is ↦ subst (λ d. LiveAnswers (begun_or_due d) c result) (sym is) (subst (λ r. Answers (due_of (Err ReadFault)) c r) (sym ends.0) (inl refl, ends.1))
  | inr rose ↦ read_fault (begun_or_due (booted_at board at)) c result ends.0 rose ends.1
]
stop_answers board (Some at) c (Refused refusal) result why ends = elim ends [
  | inl printed ↦ subst (λ d. LiveAnswers (begun_or_due d) c result) (sym why) (refused (refusal_line refusal) c result printed)
  | inr none ↦ no_memory (begun_or_due (booted_at board at)) c result none.0 none.1
]
stop_answers board (Some at) c NoMemory result why ends = no_memory (begun_or_due (booted_at board at)) c result ends.0 ends.1

-- where it isn't known what the files hold, it stopped for a fault that was counted
stop_untold : (board : List ℕ) (known : Option (List ℕ → Option (List ℕ))) (c : Call) (stop : Stop) (result : Status)
    → Stops (option_map (booted_at board) known) (files_rose c) stop → StopsIn c stop result → IfNone known (result ≡ StatusReadFault → files_rose c)
stop_untold board (Some at) c stop result why ends = tt
stop_untold board None c ReadFault result why ends = λ is. why
stop_untold board None c (Refused refusal) result why ends = λ is.
    elim ends [
      | inl printed ↦ elim printed [ inl whole ↦ absurd (cc) | inr fault ↦ absurd (cc) ]
      | inr none ↦ absurd (cc)
    ]
stop_untold board None c NoMemory result why ends = λ is. absurd (cc)

pub stop_ended : (board : List ℕ) (c : Call) (stop : Stop) (result : Status)
    → Kept c → Stops (option_map (booted_at board) c.held_old) (files_rose c) stop → StopsIn c stop result
    → Ended LiveAnswers (λ at. begun_or_due (booted_at board at)) c result
stop_ended board c stop result kept why ends = record {
  held = kept.held;
  read = kept.read;
  written = kept.written;
  answers = stop_answers board c.held_old c stop result why ends;
  untold = stop_untold board c.held_old c stop result why ends;
}

-- the session of a board that was booted
run_answers : (board : List ℕ) (known : Option (List ℕ → Option (List ℕ))) (c : Call) (o : Origin) (result : Status)
    → IfSome (option_map (booted_at board) known) (λ d. d ≡ Ok o) → RunsIn o c result
    → IfSome known (λ at. LiveAnswers (begun_or_due (booted_at board at)) c result)
run_answers board None c o result is ran = tt
run_answers board (Some at) c o result is ran = subst (λ d. LiveAnswers (begun_or_due d) c result) (sym is) (inl ran)

-- a session ends with no fault of reading
run_untold : (o : Origin) (c : Call) (result : Status) → RunsIn o c result → result ≡ StatusReadFault → files_rose c
run_untold o c result ran is = absurd (subst (λ r. RunsIn o c r) is ran)

untold_any : (known : Option (List ℕ → Option (List ℕ))) (P : Type 0) → P → IfNone known P
untold_any None P p = p
untold_any (Some at) P p = tt

pub run_ended : (board : List ℕ) (c : Call) (o : Origin) (result : Status)
    → Kept c → IfSome (option_map (booted_at board) c.held_old) (λ d. d ≡ Ok o) → RunsIn o c result
    → Ended LiveAnswers (λ at. begun_or_due (booted_at board at)) c result
run_ended board c o result kept is ran = record {
  held = kept.held;
  read = kept.read;
  written = kept.written;
  answers = run_answers board c.held_old c o result is ran;
  untold = untold_any c.held_old (result ≡ StatusReadFault → files_rose c) (run_untold o c result ran);
}

-- where no count rose
due_completes : (due : Due) (c : Call) (result : Status) → Answers due c result → Completes due c result
due_completes due c Done a = inr (inr (inl (sym a.0)))
due_completes due c Usage a = inr (inr (inl (sym a.0)))
due_completes due c StatusRefused a = inr (inr (inl (sym a.0)))
due_completes due c StatusReadFault a =
    elim a.0 [ inl is ↦ inr (inr (inl (sym is))) | inr rose ↦ inl rose ]
due_completes due c WriteFault a = inr (inl a.0)
due_completes due c StatusNoMemory a = inr (inr (inr refl))

run_completes : (o : Origin) (c : Call) (result : Status) → RunsIn o c result → LiveCompletes (Ok o) c result
run_completes o c Done ran = inr (inr (inl refl))
run_completes o c Usage ran = absurd ran
run_completes o c StatusRefused ran = absurd ran
run_completes o c StatusReadFault ran = absurd ran
run_completes o c WriteFault ran = inr (inl ran.0)
run_completes o c StatusNoMemory ran = inr (inr (inr refl))

answer_completes : (d : Result Origin Due) (c : Call) (result : Status) → LiveAnswers d c result → LiveCompletes d c result
answer_completes (Err due) c result a = due_completes due c result a
answer_completes (Ok o) c result a = elim a [
  | inl ran ↦ run_completes o c result ran
  | inr fault ↦ inl fault.1
]

-- a call that may answer so is complete
pub answers_complete : {A : Type 0} (due : A → Result Origin Due) (known : Option A) (c : Call) (result : Status)
    → IfSome known (λ a. LiveAnswers (due a) c result) → IfSome known (λ a. LiveCompletes (due a) c result)
answers_complete due None c result h = tt
answers_complete due (Some a) c result h = answer_completes (due a) c result h
