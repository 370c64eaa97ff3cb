-- The text of a run, piece after piece.
use Rattle.std.proofs.Common.{◌≡◌, ℕ, zero, suc, ◌+◌, ◌≤◌, min, List, [], ◌∷◌, ◌++◌, length, take, Option, Result, Ok, Err, sym, ap, subst, ◌∙◌, append_assoc}
use Rattle.std.proofs.Common.{arith}
use Rattle.std.specs.Bool.{⊤}
use Rattle.std.proofs.lemmas.Grind.{common_steps, flat_map-append}
use Rattle.std.proofs.lemmas.List.{append-nil, append_cancel_left, length-append, nil_from_length}
use Rattle.std.proofs.KnownBytes.{Appends-trans}
use Rattle.std.proofs.Math.Seq.{take-append-add}
use Rattle.std.specs.Io.KnownBytes.{Appends}
use Rattle.board_core.specs.Machine.{Recorded}
use Rattle.board_core.specs.Report.{report_of}
use Rattle.board_core.specs.Run.{Origin}
use Rattle.board_io.specs.Faults.{Rose}
use Rattle.board_io.specs.Sink.{AppendsPrefix}
use Rattle.board_run.specs.Replay.{report_text}
use Rattle.board_values.specs.declared.report.Report.{Report}
use Rattle.event_log.specs.Log.{closed, unclosed}
use Rattle.event_log.specs.Text.{line_of, text_of}
use Rattle.event_log.specs.declared.entry.Entry.{Entry}
use Rattle.board_live.specs.Finish.{GoesOn, HasFinished, IsRun, WroteEnd, last_text, reached, stepped_out}
use Rattle.board_live.specs.declared.finish.FinishErr.{FinishErr}
use Rattle.board_live.specs.declared.finish.FinishErr.TheVariants.{WriteFault, NoMemory}

take-min : (x y : List ℕ) (n : ℕ) → take (min n (length x)) (x ++ y) ≡ take n x
take-min [] y n = grind (arith, common_steps)
take-min (a ∷ x) y zero = grind (arith, common_steps)
take-min (a ∷ x) y (suc n) = grind (arith, common_steps, take-min x y n)

-- a prefix of a text is a prefix of a longer one
pub prefix_longer : (old new : Option (List ℕ)) (x y : List ℕ) → AppendsPrefix old new x → AppendsPrefix old new (x ++ y)
prefix_longer old new x y p = (min p.0 (length x), subst (Appends old new) (sym (take-min x y p.0)) p.1)

-- a text and then a prefix of the next
pub prefix_after : (old mid new : Option (List ℕ)) (x y : List ℕ) → Appends old mid x → AppendsPrefix mid new y → AppendsPrefix old new (x ++ y)
prefix_after old mid new x y p q =
    (length x + q.0, subst (Appends old new) (sym (take-append-add x y q.0)) (Appends-trans old mid new x (take q.0 y) p q.1))

-- the lines of what is closed and of what is open are those of the history
pub log_text : ((es : List Entry) → es ≡ closed es ++ unclosed es) → (h got : List Entry) → closed h ≡ got → text_of got ++ text_of (unclosed h) ≡ text_of h
log_text whole h got is =
    sym (flat_map-append line_of got (unclosed h)) ∙ ap text_of (ap (λ es. es ++ unclosed h) (sym is) ∙ sym (whole h))

-- nothing is open where all is closed, and one entry is where that is all but what is closed
pub none_open : ((es : List Entry) → es ≡ closed es ++ unclosed es) → (h : List Entry) → closed h ≡ h → text_of (unclosed h) ≡ []
none_open whole h is =
    ap text_of (nil_from_length (unclosed h) (omega (arith, ap length (whole h), length-append (closed h) (unclosed h), ap length is)))

pub one_open : ((es : List Entry) → es ≡ closed es ++ unclosed es) → (h : List Entry) (e : Entry) → h ≡ closed h ++ e ∷ [] → text_of (unclosed h) ≡ line_of e
one_open whole h e is =
    ap text_of (append_cancel_left (closed h) (unclosed h) (e ∷ []) (sym (whole h) ∙ is)) ∙ append-nil (line_of e)

-- after the open line the report failed
pub report_failed : (o : Origin) (h : List Entry) (report : Report) (before mid now : ℕ) (old part new : Option (List ℕ))
    → before ≤ mid → Appends old part (text_of (unclosed h)) → report ≡ report_of (reached o h) → Rose mid now × AppendsPrefix part new (report_text report)
    → WroteEnd o h before now old new (Err WriteFault)
report_failed o h report before mid now old part new le line is failed = (
  omega (arith, le, failed.0),
  prefix_after old part new (text_of (unclosed h)) (report_text (report_of (reached o h))) line
      (subst (λ r. AppendsPrefix part new (report_text r)) is failed.1),
)

-- what ended a run, by what was written last
pub finished : (o : Origin) (begun got h : List Entry) (before now : ℕ) (old new : Option (List ℕ)) (r : Result ⊤ FinishErr)
    → IsRun o h → GoesOn begun h
    → text_of got ++ text_of (unclosed h) ≡ text_of h → WroteEnd o h before now old new r → HasFinished o begun got before now old new r
finished o begun got h before now old new (Ok v) run on text w =
    let report = report_text (report_of (reached o h)) in
    (last_text o h, (h, run, on, sym (append_assoc (text_of got) (text_of (unclosed h)) report) ∙ ap (λ t. t ++ report) text), w)
finished o begun got h before now old new (Err WriteFault) run on text w =
    let report = report_text (report_of (reached o h)) in
    (last_text o h, (h, run, on, sym (append_assoc (text_of got) (text_of (unclosed h)) report) ∙ ap (λ t. t ++ report) text), w.0, w.1)
finished o begun got h before now old new (Err NoMemory) run on text w = (text_of (unclosed h), (h, run, on, text), w)

-- a machine that made the steps that were left
pub wrote_of : (o : Origin) (m m' : Recorded) (before now : ℕ) (old new : Option (List ℕ)) (r : Result ⊤ FinishErr)
    → m.origin ≡ o → m' ≡ record m { history = stepped_out m.origin m.history } → WroteEnd m'.origin m'.history before now old new r
    → WroteEnd o (stepped_out o m.history) before now old new r
wrote_of o m m' before now old new r its is w =
    subst (λ x. WroteEnd x (stepped_out x m.history) before now old new r) its (subst (λ (y : Recorded). WroteEnd y.origin y.history before now old new r) is w)
