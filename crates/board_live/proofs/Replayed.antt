-- The log of a run isn't too large to be read, and its replay is the text of the run.
use Rattle.std.proofs.Common.{◌≡◌, ℕ, ◌+◌, ◌*◌, ◌≤◌, true, false, cond, nat_lt, List, [], ◌∷◌, length, All, Option, None, Some, Result, Ok, Err, ap, subst}
use Rattle.std.proofs.Common.{refl, ◌∙◌, arith, length-append, codes, ◌++◌}
use Rattle.std.proofs.lemmas.Bool.{cond-false, le-ltb}
use Rattle.std.proofs.lemmas.Fmt.{length-decimal-le}
use Rattle.std.proofs.lemmas.List.Elements.{All-head, All-tail}
use Rattle.std.proofs.lemmas.List.Sums.{sum_by-cons}
use Rattle.board_core.specs.Boot.{boot_refusal}
use Rattle.board_core.specs.Report.{report_of}
use Rattle.board_core.specs.Run.{Origin, run as run_of}
use Rattle.board_core.specs.declared.boot.BootErr.{BootErr}
use Rattle.board_core.specs.declared.boot.BootErr.TheVariants as boot
use Rattle.board_file.specs.Rules.{IsBoard}
use Rattle.board_run.specs.Boards.{loaded_at}
use Rattle.board_run.specs.Booting.{booted_at, booted_from}
use Rattle.board_run.specs.Command.{Replay}
use Rattle.board_run.specs.Due.{row_text}
use Rattle.board_run.specs.Held.{held_file, within}
use Rattle.board_run.specs.Refused.{refused_boot, refused_log}
use Rattle.board_run.specs.Replay.{log_at, session_at, session_of, session_on, session_text}
use Rattle.board_run.specs.Step.{◌>>=◌}
use Rattle.board_run.specs.declared.boards.Loaded.{Loaded}
use Rattle.board_run.specs.declared.refusal.Refusal.TheVariants.{LogTooLarge}
use Rattle.board_run.specs.declared.refusal.Stop.{Stop}
use Rattle.board_run.specs.declared.refusal.Stop.TheVariants.{Refused}
use Rattle.board_live.specs.Finish.{IsRun, run_text}
use Rattle.event_log.specs.Log.{IsEntry, IsHistory, steps_in, is_irq, step_count, irq_count, parted}
use Rattle.event_log.specs.LogIn.{log_in}
use Rattle.event_log.specs.Reading.{ReadsBack}
use Rattle.event_log.specs.Text.{line_of, numbers_of, text_of}
use Rattle.std.specs.Fmt.{decimal}
use Rattle.tx_types.specs.Line.{hex}
use Rattle.event_log.specs.declared.entry.Entry.{Entry}
use Rattle.event_log.specs.declared.entry.Entry.TheVariants.{Steps, Irq}

-- no two entries of steps stand side by side, so there are at most twice as many entries as interrupts, and one more
abbrev open_steps : List Entry → ℕ
open_steps [] = 0
open_steps (Steps n ∷ es) = 1
open_steps (Irq d w ∷ es) = 0

irq_count-cons : (e : Entry) (es : List Entry) → irq_count (e ∷ es) ≡ cond (is_irq e) 1 0 + irq_count es
irq_count-cons e es = sum_by-cons (λ x. cond (is_irq x) 1 0) e es

few-by-front : (es : List Entry) → parted es ≡ true → length es ≤ 2 * irq_count es + open_steps es
few-by-front [] h = omega arith
few-by-front (Steps n ∷ []) h = omega arith
few-by-front (Irq d w ∷ []) h = omega arith
few-by-front (Steps n ∷ Steps m ∷ es) h = absurd cc
few-by-front (Steps n ∷ Irq d w ∷ es) h =
    omega (arith, few-by-front (Irq d w ∷ es) h, irq_count-cons (Steps n) (Irq d w ∷ es))
few-by-front (Irq d w ∷ Steps n ∷ es) h =
    omega (arith, few-by-front (Steps n ∷ es) h, irq_count-cons (Irq d w) (Steps n ∷ es))
few-by-front (Irq d w ∷ Irq a b ∷ es) h =
    omega (arith, few-by-front (Irq a b ∷ es) h, irq_count-cons (Irq d w) (Irq a b ∷ es))

open-small : (es : List Entry) → open_steps es ≤ 1
open-small [] = omega arith
open-small (Steps n ∷ es) = omega arith
open-small (Irq d w ∷ es) = omega arith

-- a line is short
hex_length : (w : ℕ) → length (hex w) ≡ 8
hex_length w = refl

line-short : (devices : ℕ) (e : Entry) → devices ≤ 16 → IsEntry devices e → steps_in e ≤ 100000000 → length (line_of e) ≤ 22
line-short devices (Steps n) few is small =
    let short : length (numbers_of (Steps n)) ≤ 9 = length-decimal-le 9 n (omega arith) (omega (arith, small)) (omega (arith, small)) in
    omega (arith, short, length-append (numbers_of (Steps n)) (codes "\n"))
line-short devices (Irq d w) few is small =
    let short : length (decimal d) ≤ 2 = length-decimal-le 2 d (omega arith) (omega (arith, few, is.0)) (omega (arith, few, is.0)) in
    let whole : length (numbers_of (Irq d w)) ≡ length (decimal d ++ codes " ") + length (hex w) = length-append (decimal d ++ codes " ") (hex w) in
    omega (arith, short, whole, hex_length w, length-append (decimal d) (codes " "), length-append (numbers_of (Irq d w)) (codes "\n"))

text-short : (devices : ℕ) (es : List Entry) → devices ≤ 16 → All (IsEntry devices) es → step_count es ≤ 100000000
    → length (text_of es) ≤ 22 * length es
text-short devices [] few each small = omega arith
text-short devices (e ∷ es) few each small =
    omega (
      arith,
      sum_by-cons steps_in e es,
      length-append (line_of e) (text_of es),
      line-short devices e few (All-head (IsEntry devices) e es each) (omega (arith, small, sum_by-cons steps_in e es)),
      text-short devices es few (All-tail (IsEntry devices) e es each) (omega (arith, small, sum_by-cons steps_in e es)),
    )

pub log-short : (devices : ℕ) (es : List Entry) → devices ≤ 16 → IsHistory devices es → length (text_of es) ≤ 4194304
log-short devices es few h =
    omega (arith, text-short devices es few h.entries h.steps, few-by-front es h.apart, open-small es, h.irqs)

-- it is read as its history
log_read : ((devices : ℕ) → ReadsBack devices) → (devices : ℕ) (log : List ℕ) (at : List ℕ → Option (List ℕ)) (h : List Entry)
    → devices ≤ 16 → IsHistory devices h → at log ≡ Some (text_of h) → log_at devices log at ≡ Ok h
unfolding log_at
log_read back devices log at h few is held =
    let read : List ℕ → Result (List Entry) Stop = λ bytes. refused_log (log_in devices bytes) in
    let fits : nat_lt 4194304 (length (text_of h)) ≡ false = le-ltb 4194304 (length (text_of h)) (log-short devices h few is) in
    ap (λ f. (held_file f >>= within 4194304 LogTooLarge) >>= read) held
    ∙ ap (λ r. r >>= read) (cond-false (nat_lt 4194304 (length (text_of h))) (Err (Refused LogTooLarge)) (Ok (text_of h)) fits)
    ∙ ap refused_log (back devices few h is)

-- an origin has the board that was read
boots : (l : Loaded) (o : Origin) → booted_from l ≡ Ok o → o.board ≡ l.board
unfolding booted_from
boots l o is = by_refusal (boot_refusal l.board l.images) is where
  by_refusal : (r : Option BootErr) → refused_boot (record { board = l.board; images = l.images }) r ≡ Ok o → o.board ≡ l.board
  by_refusal None is = let same : o ≡ record { board = l.board; images = l.images } = cc in ap (λ x. x.board) same
  by_refusal (Some (boot.Image number err)) is = absurd cc
  by_refusal (Some (boot.NoRoom number)) is = absurd cc
  by_refusal (Some boot.NoMemory) is = absurd cc

-- the board is read and booted as for the run, so the history of the log makes what the run made
pub replayed : ((devices : ℕ) → ReadsBack devices) → (board log : List ℕ) (at : List ℕ → Option (List ℕ)) (o : Origin) (h : List Entry)
    → booted_at board at ≡ Ok o → IsBoard o.board → IsRun o h → at log ≡ Some (text_of h) → row_text (Replay board log) at ≡ Ok (run_text o h)
unfolding booted_at session_at session_on session_of session_text
replayed back board log at o h booted rules run held = by_loaded (loaded_at board at) booted where
  by_loaded : (r : Result Loaded Stop) → (r >>= booted_from) ≡ Ok o
      → ((r >>= (λ l. session_on l log at)) >>= (λ s. Ok (session_text s))) ≡ Ok (run_text o h)
  by_loaded (Err stop) is = absurd cc
  by_loaded (Ok l) is =
      let same = boots l o is in
      let few : length l.board.devices ≤ 16 = subst (λ b. length b.devices ≤ 16) same rules.devices in
      let history : IsHistory (length l.board.devices) h = subst (λ b. IsHistory (length b.devices) h) same run.history in
      ap (λ r. (r >>= session_of l) >>= (λ s. Ok (session_text s))) (log_read back (length l.board.devices) log at h few history held)
      ∙ ap (λ r. (r >>= (λ origin. Ok (record { history = h; report = report_of (run_of origin h).now }))) >>= (λ s. Ok (session_text s))) is
