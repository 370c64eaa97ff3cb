-- A text that begins with the lines of a history.
use Rattle.std.proofs.Common.{◌≡◌, ℕ, ◌≤◌, cond, false, List, [], ◌∷◌, ◌++◌, map, Some, refl, sym, ap, ◌∙◌, subst, append_assoc}
use Rattle.std.specs.List.{concat}
use Rattle.std.specs.Option.{option_map, option_and_then, unwrap_or}
use Rattle.std.specs.Prelude.{codes}
use Rattle.std.specs.Result.{result_ok}
use Rattle.std.specs.Str.{bytes_eq}
use Rattle.std.proofs.lemmas.List.Concat.{concat_is}
use Rattle.std.proofs.lemmas.List.Folds.{flat_map-map}
use Rattle.event_log.specs.Log.{IsHistory}
use Rattle.event_log.specs.LogIn.{lines_of, log_in}
use Rattle.event_log.specs.Logged.{before_report, logged}
use Rattle.event_log.specs.Text.{line_of, text_of}
use Rattle.event_log.specs.declared.entry.Entry.{Entry}
use Rattle.event_log.specs.declared.entry.Entry.TheVariants.{Steps, Irq}
use Rattle.event_log.proofs.Lines.{words-next}
use Rattle.event_log.proofs.LogIn.{lines-line, reads-back}
use Rattle.event_log.proofs.Unique.{next-history}

lines-after : (devices : ℕ) (before es : List Entry) (rest : List ℕ) → devices ≤ 16 → IsHistory devices (before ++ es)
    → lines_of (text_of es ++ rest) ≡ map line_of es ++ lines_of rest
lines-after devices before [] rest few h = refl
lines-after devices before (e ∷ es) rest few h =
    let words = words-next devices before e few (next-history devices before e es h) in
    let later : before ++ e ∷ es ≡ (before ++ e ∷ []) ++ es = sym (append_assoc before (e ∷ []) es) in
    ap lines_of (append_assoc (line_of e) (text_of es) rest)
    ∙ lines-line e (text_of es ++ rest) words
    ∙ ap (λ ls. line_of e ∷ ls) (lines-after devices (before ++ e ∷ []) es rest few (subst (IsHistory devices) later h))

-- the lines of a history's text are those of its entries, and then those of what follows
pub history-lines : (devices : ℕ) (es : List Entry) (rest : List ℕ) → devices ≤ 16 → IsHistory devices es
    → lines_of (text_of es ++ rest) ≡ map line_of es ++ lines_of rest
history-lines devices es rest = lines-after devices [] es rest

-- no entry's line begins a report
no-report : (e : Entry) → bytes_eq (line_of e) (codes "report\n") ≡ false
no-report (Steps n) = refl
no-report (Irq d w) = refl

before-report : (es : List Entry) (more : List ℕ)
    → before_report (map line_of es ++ lines_of (codes "report\n" ++ more)) ≡ Some (map line_of es)
before-report [] more = refl
before-report (e ∷ es) more =
    ap (λ b. cond b (Some []) (option_map (λ before. line_of e ∷ before) (before_report (map line_of es ++ lines_of (codes "report\n" ++ more)))))
    (no-report e) ∙ ap (option_map (λ before. line_of e ∷ before)) (before-report es more)

joined-lines : (es : List Entry) → concat (map line_of es) ≡ text_of es
joined-lines es = concat_is (map line_of es) ∙ flat_map-map (λ x. x) line_of es

-- the log before a report says the history whose text it is
pub logged-text : (devices : ℕ) (es : List Entry) (more : List ℕ) → devices ≤ 16 → IsHistory devices es
    → logged devices (text_of es ++ (codes "report\n" ++ more)) ≡ es
unfolding logged
logged-text devices es more few h =
    ap (λ ls. unwrap_or (option_and_then (λ lines. result_ok (log_in devices (concat lines))) (before_report ls)) [])
    (history-lines devices es (codes "report\n" ++ more) few h)
    ∙ ap (λ o. unwrap_or (option_and_then (λ lines. result_ok (log_in devices (concat lines))) o) []) (before-report es more)
    ∙ ap (λ text. unwrap_or (result_ok (log_in devices text)) []) (joined-lines es)
    ∙ ap (λ r. unwrap_or (result_ok r) []) (reads-back devices few es h)
