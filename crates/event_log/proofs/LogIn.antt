-- The bytes of a log say the history whose text they are, or their first bad line.
use Rattle.std.proofs.Common.{◌≡◌, ◌≢◌, ◌⊎◌, ℕ, ◌+◌, ◌^◌, ◌<◌, ◌≤◌, ◌==◌, ◌&&◌, ◌||◌, true, false, cond, nat_le, nat_lt, List, [], ◌∷◌, ◌++◌, length, Option}
use Rattle.std.proofs.Common.{None, Some, Result, Ok, Err, refl, sym, ap, ◌∙◌, subst, arith, append_assoc, append-nil, IfOk, inl, inr}
use Rattle.std.specs.Bool.{Decides}
use Rattle.std.specs.Char.{digit_value}
use Rattle.std.specs.Fmt.{decimal}
use Rattle.std.specs.List.{All, AllByRecursion, fold, list_all, onto_first}
use Rattle.std.specs.Option.{ok_or, option_and_then}
use Rattle.std.specs.Result.{IfErr}
use Rattle.std.specs.Str.{bytes_eq}
use Rattle.std.specs.Str.Parse.{AllDigits, digits_value}
use Rattle.std.proofs.lemmas.Bool.{ne_eqb, cond_both, cond-true, and_parts, and_from, le-leb, leb-true}
use Rattle.std.proofs.lemmas.Bool.Decides.{Decides-and, Decides-ltb, Decides-by_and}
use Rattle.std.proofs.lemmas.Grind.{flat_map-append}
use Rattle.std.proofs.lemmas.List.Elements.{All-from_recursion, recursion_from_All}
use Rattle.std.proofs.lemmas.List.Folds.{fold_stays}
use Rattle.std.proofs.lemmas.List.Splits.{slice_split_at}
use Rattle.std.proofs.lemmas.Slice.Eq.{bytes_eq-Decides}
use Rattle.tx_types.specs.Line.{hex}
use Rattle.event_log.specs.Log.{Log, IsEntry, IsHistory, parted, step_count, irq_count}
use Rattle.event_log.specs.LogIn.{lines_of, parts_of, guess, entry_in, is_entry, is_history, longer, with_line, log_in}
use Rattle.event_log.specs.Reading.{Answers, ReadsBack, Holds, SaysTrue}
use Rattle.event_log.specs.Text.{fields_of, line_of, text_of, Ends, IsLogText, IsBadLine, TellsBadLine}
use Rattle.event_log.specs.declared.reading.LogErr.{LogErr}
use Rattle.event_log.specs.declared.reading.LogErr.TheVariants.{NoMemory, BadLine}
use Rattle.event_log.specs.declared.entry.Entry.{Entry}
use Rattle.event_log.specs.declared.entry.Entry.TheVariants.{Steps, Irq}
use Rattle.event_log.proofs.Digits.{digits-decimal, value-decimal, digits-hex, value-hex}
use Rattle.event_log.proofs.Lines.{IsWords, no-newline, words-next}
use Rattle.event_log.proofs.Unique.{next-history}

-- a newline ends a line
lines-one : (fields more : List ℕ) → AllByRecursion (λ b. b ≢ 10) fields
    → lines_of (fields ++ 10 ∷ more) ≡ (fields ++ 10 ∷ []) ∷ lines_of more
lines-one [] more h = refl
lines-one (b ∷ bs) more h =
    let other : (b == 10) ≡ false = ne_eqb b 10 h.0 in rw other (ap (onto_first b) (lines-one bs more h.1))

pub lines-line : (e : Entry) (more : List ℕ) → IsWords e → lines_of (line_of e ++ more) ≡ line_of e ∷ lines_of more
lines-line e more words =
    ap lines_of (append_assoc (fields_of e) (10 ∷ []) more)
    ∙ lines-one (fields_of e) more (recursion_from_All (λ b. b ≢ 10) (fields_of e) (no-newline e words))

-- a text begins with the first of its lines and goes on with the others; where there is none it is empty
abbrev Begins : List ℕ → List (List ℕ) → Type 0
Begins text [] = text ≡ []
Begins text (line ∷ lines) = (more : List ℕ) × (text ≡ line ++ more) × (lines ≡ lines_of more)

begins-onto : (b : ℕ) (bs : List ℕ) (lines : List (List ℕ)) → Begins bs lines → Begins (b ∷ bs) (onto_first b lines)
begins-onto b bs [] h = ([], ap (λ xs. b ∷ xs) h, refl)
begins-onto b bs (line ∷ lines) h = (h.0, ap (λ xs. b ∷ xs) h.1, h.2)

begins : (text : List ℕ) → Begins text (lines_of text)
begins [] = refl
begins (b ∷ bs) =
    cond_both (b == 10) ((b ∷ []) ∷ lines_of bs) (onto_first b (lines_of bs)) (Begins (b ∷ bs)) (λ e. (bs, refl, refl))
    (λ e. begins-onto b bs (lines_of bs) (begins bs))

-- a text that has a line isn't empty
has-line : (text line : List ℕ) (lines : List (List ℕ)) → lines_of text ≡ line ∷ lines → 0 < length text
has-line [] line lines h = absurd cc
has-line (b ∷ bs) line lines h = omega arith

no-gap : (c : ℕ) → c ≢ 32 → c ≢ 10 → (c == 32 || c == 10) ≡ false
no-gap c space newline = rw (ne_eqb c 32 space) (ne_eqb c 10 newline)

-- digits have no space and no newline
gap-free : (radix : ℕ) (ds : List ℕ) → radix ≤ 36 → AllDigits radix ds → AllByRecursion (λ b. (b == 32 || b == 10) ≡ false) ds
gap-free radix [] low h = tt
gap-free radix (c ∷ cs) low h = (
  no-gap c (λ e. let same : digit_value c ≡ digit_value 32 = ap digit_value e in absurd (omega (arith, same, h.0, low)))
      (λ e. let same : digit_value c ≡ digit_value 10 = ap digit_value e in absurd (omega (arith, same, h.0, low))),
  gap-free radix cs low h.1,
)

-- digits up to a space or a newline are one part
part-digits : (radix gap : ℕ) (ds more : List ℕ) → radix ≤ 36 → AllDigits radix ds → (gap == 32 || gap == 10) ≡ true
    → parts_of (ds ++ gap ∷ more) ≡ ds ∷ parts_of more
part-digits radix gap ds more low all is =
    slice_split_at (λ b. b == 32 || b == 10) ds gap more
    (All-from_recursion (λ b. (b == 32 || b == 10) ≡ false) ds (gap-free radix ds low all)) is

guess-steps : (n : ℕ) (ds line : List ℕ) → AllDigits 10 ds → digits_value 10 ds ≡ n → line ≡ 83 ∷ 32 ∷ (ds ++ 10 ∷ [])
    → guess (parts_of line) ≡ Some (Steps n)
guess-steps n ds line all value is =
    ap (λ l. guess (parts_of l)) is
    ∙ ap (λ ps. guess ((83 ∷ []) ∷ ps)) (part-digits 10 10 ds [] (omega arith) all refl)
    ∙ ap (λ k. Some (Steps k)) value

guess-irq : (d w : ℕ) (ds ws line : List ℕ) → AllDigits 10 ds → AllDigits 16 ws → digits_value 10 ds ≡ d → digits_value 16 ws ≡ w
    → line ≡ 73 ∷ 32 ∷ (((ds ++ 32 ∷ []) ++ ws) ++ 10 ∷ []) → guess (parts_of line) ≡ Some (Irq d w)
guess-irq d w ds ws line all every device word is =
    let apart : ((ds ++ 32 ∷ []) ++ ws) ++ 10 ∷ [] ≡ ds ++ 32 ∷ (ws ++ 10 ∷ [])
    = append_assoc (ds ++ 32 ∷ []) ws (10 ∷ []) ∙ append_assoc ds (32 ∷ []) (ws ++ 10 ∷ []) in
    let parts : parts_of (((ds ++ 32 ∷ []) ++ ws) ++ 10 ∷ []) ≡ ds ∷ ws ∷ [] ∷ []
    = ap parts_of apart ∙ part-digits 10 32 ds (ws ++ 10 ∷ []) (omega arith) all refl
    ∙ ap (λ ps. ds ∷ ps) (part-digits 16 10 ws [] (omega arith) every refl) in
    ap (λ l. guess (parts_of l)) is ∙ ap (λ ps. guess ((73 ∷ []) ∷ ps)) parts
    ∙ ap (λ k. Some (Irq k (digits_value 16 ws))) device ∙ ap (λ k. Some (Irq d k)) word

guess-line : (e : Entry) (line : List ℕ) → IsWords e → line ≡ line_of e → guess (parts_of line) ≡ Some e
unfolding IsWords
guess-line (Steps n) line small is = guess-steps n (decimal n) line (digits-decimal n small) (value-decimal n small) is
guess-line (Irq d w) line small is =
    guess-irq d w (decimal d) (hex w) line (digits-decimal d small.0) (digits-hex w) (value-decimal d small.0) (value-hex w small.1) is

-- the entry in a line is the one whose line it is
entry-line : (e : Entry) (line : List ℕ) → IsWords e → line ≡ line_of e → entry_in line ≡ Some e
entry-line e line words is =
    ap (option_and_then (λ f. cond (bytes_eq (line_of f) line) (Some f) None)) (guess-line e line words is)
    ∙ cond-true (bytes_eq (line_of e) line) (Some e) None ((bytes_eq-Decides (line_of e) line).1 (sym is))

entry-test : (devices : ℕ) (e : Entry) → Decides (is_entry devices e) (IsEntry devices e)
entry-test devices (Steps n) = (leb-true 1 n, le-leb 1 n)
entry-test devices (Irq d w) =
    Decides-and (nat_lt d devices) (nat_lt w (2 ^ 32)) (Decides-ltb d devices) (Decides-ltb w (2 ^ 32))

entries-test : (devices : ℕ) (es : List Entry) → Decides (list_all (is_entry devices) es) (All (IsEntry devices) es)
entries-test devices es =
    Decides-by_and (is_entry devices) (IsEntry devices) (list_all (is_entry devices)) (entry-test devices) refl (λ _ _. refl) es

pub history-tested : (devices : ℕ) (es : List Entry) → is_history devices es ≡ true → IsHistory devices es
history-tested devices es h =
    let last = and_parts (list_all (is_entry devices) es && parted es && nat_le (step_count es) 100000000) (nat_le (irq_count es) 65536) h in
    let third = and_parts (list_all (is_entry devices) es && parted es) (nat_le (step_count es) 100000000) last.0 in
    let front = and_parts (list_all (is_entry devices) es) (parted es) third.0 in
    record {
      entries = (entries-test devices es).0 front.0;
      apart = front.1;
      steps = leb-true (step_count es) 100000000 third.1;
      irqs = leb-true (irq_count es) 65536 last.1;
    }

pub tested-history : (devices : ℕ) (es : List Entry) → IsHistory devices es → is_history devices es ≡ true
tested-history devices es h =
    and_from (list_all (is_entry devices) es && parted es && nat_le (step_count es) 100000000) (nat_le (irq_count es) 65536)
    (and_from (list_all (is_entry devices) es && parted es) (nat_le (step_count es) 100000000)
    (and_from (list_all (is_entry devices) es) (parted es) ((entries-test devices es).1 h.entries) h.apart)
    (le-leb (step_count es) 100000000 h.steps)) (le-leb (irq_count es) 65536 h.irqs)

-- the line of an entry that may come next is read as that entry
read-next : (devices : ℕ) (before : List Entry) (e : Entry) → IsWords e → IsHistory devices (before ++ e ∷ [])
    → with_line devices (Ok before) (line_of e) ≡ Ok (before ++ e ∷ [])
read-next devices before e words h =
    ap (λ o. ok_or (option_and_then (longer devices before) o) (length before + 1)) (entry-line e (line_of e) words refl)
    ∙ ap (λ o. ok_or o (length before + 1))
    (cond-true (is_history devices (before ++ e ∷ [])) (Some (before ++ e ∷ [])) None (tested-history devices (before ++ e ∷ []) h))

-- a line is bad, or that of an entry that may come next
abbrev Outcome : ℕ → List Entry → List ℕ → Result (List Entry) ℕ → Type 0
Outcome devices before line r =
    (r ≡ Err (length before + 1))
    ⊎ ((e : Entry) × IsHistory devices (before ++ e ∷ []) × (line ≡ line_of e) × (r ≡ Ok (before ++ e ∷ [])))

guess-outcome : (devices : ℕ) (before : List Entry) (line : List ℕ) (o : Option Entry)
    → Outcome devices before line
    (ok_or (option_and_then (longer devices before) (option_and_then (λ e. cond (bytes_eq (line_of e) line) (Some e) None) o)) (length before + 1))
guess-outcome devices before line None = inl refl
guess-outcome devices before line (Some e) =
    cond_both (bytes_eq (line_of e) line) (Some e) None
    (λ o. Outcome devices before line (ok_or (option_and_then (longer devices before) o) (length before + 1)))
    (λ same. cond_both (is_history devices (before ++ e ∷ [])) (Some (before ++ e ∷ [])) None
    (λ o. Outcome devices before line (ok_or o (length before + 1)))
    (λ yes. inr (e, history-tested devices (before ++ e ∷ []) yes, sym ((bytes_eq-Decides (line_of e) line).0 same), refl))
    (λ bad. inl refl)) (λ other. inl refl)

read-line : (devices : ℕ) (before : List Entry) (line : List ℕ) → Outcome devices before line (with_line devices (Ok before) line)
read-line devices before line = guess-outcome devices before line (guess (parts_of line))

-- after a bad line nothing is read
read-no-more : (devices : ℕ) (before : List Entry) (line : List ℕ) (lines : List (List ℕ))
    → with_line devices (Ok before) line ≡ Err (length before + 1)
    → fold (with_line devices) (Ok before) (line ∷ lines) ≡ Err (length before + 1)
read-no-more devices before line lines bad =
    ap (λ r. fold (with_line devices) r lines) bad
    ∙ fold_stays (with_line devices) (Err (length before + 1)) (λ l. refl) lines

-- the text of entries is read as those entries, and reading goes on after it
read-on : (devices : ℕ) (before es : List Entry) (rest : List ℕ) → devices ≤ 16 → IsHistory devices (before ++ es)
    → fold (with_line devices) (Ok before) (lines_of (text_of es ++ rest))
    ≡ fold (with_line devices) (Ok (before ++ es)) (lines_of rest)
read-on devices before [] rest few h =
    ap (λ xs. fold (with_line devices) (Ok xs) (lines_of rest)) (sym (append-nil before))
read-on devices before (e ∷ es) rest few h =
    let next = next-history devices before e es h in
    let words = words-next devices before e few next in
    let lines : lines_of (text_of (e ∷ es) ++ rest) ≡ line_of e ∷ lines_of (text_of es ++ rest)
    = ap lines_of (append_assoc (line_of e) (text_of es) rest) ∙ lines-line e (text_of es ++ rest) words in
    let later : before ++ e ∷ es ≡ (before ++ e ∷ []) ++ es = sym (append_assoc before (e ∷ []) es) in
    ap (fold (with_line devices) (Ok before)) lines
    ∙ ap (λ r. fold (with_line devices) r (lines_of (text_of es ++ rest))) (read-next devices before e words next)
    ∙ read-on devices (before ++ e ∷ []) es rest few (subst (IsHistory devices) later h)
    ∙ ap (λ xs. fold (with_line devices) (Ok xs) (lines_of rest)) (sym later)

-- reading stops at a line that may not come next
read-stops : (devices : ℕ) (before : List Entry) (rest : List ℕ) (lines : List (List ℕ)) → Begins rest lines
    → 0 < length rest → Ends devices before rest → fold (with_line devices) (Ok before) lines ≡ Err (length before + 1)
read-stops devices before rest [] begin some ends = absurd (omega (arith, ap length begin, some))
read-stops devices before rest (line ∷ lines) begin some ends =
    elim (read-line devices before line) [
      | inl bad ↦ read-no-more devices before line lines bad
      | inr good ↦ absurd (ends good.0 begin.0 good.1 (begin.1 ∙ ap (λ l. l ++ begin.0) good.2))
    ]

-- what follows a bad line's entries doesn't begin with a line that may come next
bad-ends : (devices : ℕ) (before : List Entry) (rest line : List ℕ) (lines : List (List ℕ)) → devices ≤ 16
    → lines_of rest ≡ line ∷ lines → with_line devices (Ok before) line ≡ Err (length before + 1) → Ends devices before rest
bad-ends devices before rest line lines few is bad = λ e more after same.
    let words = words-next devices before e few after in
    let all : line ∷ lines ≡ line_of e ∷ lines_of more = sym is ∙ ap lines_of same ∙ lines-line e more words in
    let first : line ≡ line_of e = cc in
    let both : Err (length before + 1) ≡ Ok (before ++ e ∷ [])
    = sym bad ∙ ap (with_line devices (Ok before)) first ∙ read-next devices before e words after in
    absurd cc

text-append : (es : List Entry) (e : Entry) (more : List ℕ) → text_of es ++ (line_of e ++ more) ≡ text_of (es ++ e ∷ []) ++ more
text-append es e more =
    let last : text_of (es ++ e ∷ []) ≡ text_of es ++ line_of e
    = flat_map-append line_of es (e ∷ []) ∙ ap (λ xs. text_of es ++ xs) (append-nil (line_of e)) in
    sym (append_assoc (text_of es) (line_of e) more) ∙ ap (λ xs. xs ++ more) (sym last)

-- what is read of a text is so
read-true : (devices : ℕ) (bytes : List ℕ) (before : List Entry) (rest : List ℕ) (lines : List (List ℕ)) → devices ≤ 16
    → IsHistory devices before → bytes ≡ text_of before ++ rest → lines_of rest ≡ lines
    → Holds devices bytes (fold (with_line devices) (Ok before) lines)
read-true devices bytes before rest [] few h text is =
    let empty : rest ≡ [] = subst (Begins rest) is (begins rest) in
    record { history = h; text = text ∙ ap (λ xs. text_of before ++ xs) empty ∙ append-nil (text_of before) }
read-true devices bytes before rest (line ∷ lines) few h text is =
    let begin = subst (Begins rest) is (begins rest) in
    elim (read-line devices before line) [
      | inl bad ↦
          subst (Holds devices bytes) (sym (read-no-more devices before line lines bad)) (record {
            before = before;
            history = h;
            number = refl;
            rest = rest;
            text = text;
            follows = has-line rest line lines is;
            bad = bad-ends devices before rest line lines few is bad;
          })
      | inr good ↦
          let behind : bytes ≡ text_of (before ++ good.0 ∷ []) ++ begin.0
          = text ∙ ap (λ xs. text_of before ++ xs) (begin.1 ∙ ap (λ l. l ++ begin.0) good.2)
          ∙ text-append before good.0 begin.0 in
          subst (Holds devices bytes) (sym (ap (λ r. fold (with_line devices) r lines) good.3))
          (read-true devices bytes (before ++ good.0 ∷ []) begin.0 lines few good.1 behind (sym begin.2))
    ]

-- what is read of a text, on a board with any number of devices, has that text
read-text : (devices : ℕ) (bytes : List ℕ) (before : List Entry) (rest : List ℕ) (lines : List (List ℕ)) (es : List Entry)
    → bytes ≡ text_of before ++ rest → lines_of rest ≡ lines → fold (with_line devices) (Ok before) lines ≡ Ok es → bytes ≡ text_of es
read-text devices bytes before rest [] es text is read =
    let empty : rest ≡ [] = subst (Begins rest) is (begins rest) in
    let same : before ≡ es = cc in
    text ∙ ap (λ xs. text_of before ++ xs) empty ∙ append-nil (text_of before) ∙ ap text_of same
read-text devices bytes before rest (line ∷ lines) es text is read =
    let begin = subst (Begins rest) is (begins rest) in
    elim (read-line devices before line) [
      | inl bad ↦
          let both : Err (length before + 1) ≡ Ok es = sym (read-no-more devices before line lines bad) ∙ read in absurd cc
      | inr good ↦
          let after : bytes ≡ text_of (before ++ good.0 ∷ []) ++ begin.0
          = text ∙ ap (λ xs. text_of before ++ xs) (begin.1 ∙ ap (λ l. l ++ begin.0) good.2)
          ∙ text-append before good.0 begin.0 in
          read-text devices bytes (before ++ good.0 ∷ []) begin.0 lines es after (sym begin.2)
          (sym (ap (λ r. fold (with_line devices) r lines) good.3) ∙ read)
    ]

pub text-says : (devices : ℕ) (es : List Entry) (bytes : List ℕ) → devices ≤ 16 → IsLogText devices es bytes
    → log_in devices bytes ≡ Ok es
unfolding log_in
text-says devices es bytes few h =
    ap (λ bs. fold (with_line devices) (Ok []) (lines_of bs)) (h.text ∙ sym (append-nil (text_of es)))
    ∙ read-on devices [] es [] few h.history

pub bad-line-says : (devices line : ℕ) (bytes : List ℕ) → devices ≤ 16 → IsBadLine devices line bytes
    → log_in devices bytes ≡ Err line
unfolding log_in
bad-line-says devices line bytes few h =
    ap (λ bs. fold (with_line devices) (Ok []) (lines_of bs)) h.text
    ∙ read-on devices [] h.before h.rest few h.history
    ∙ read-stops devices h.before h.rest (lines_of h.rest) (begins h.rest) h.follows h.bad
    ∙ ap (λ n. Err n) (sym h.number)

-- what a reading answers is what the bytes say
pub answers-due : (devices : ℕ) (bytes : List ℕ) (r : Result Log LogErr) → devices ≤ 16
    → IfOk r (λ h. IsLogText devices h.entries bytes) → IfErr r (TellsBadLine devices bytes) → Answers (log_in devices bytes) r
answers-due devices bytes (Ok h) few good bad = text-says devices h.entries bytes few good
answers-due devices bytes (Err NoMemory) few good bad = tt
answers-due devices bytes (Err (BadLine line)) few good bad = bad-line-says devices line bytes few bad

pub reads-back : (devices : ℕ) → ReadsBack devices
reads-back devices few es h = text-says devices es (text_of es) few (record { history = h; text = refl })

pub says-true : (devices : ℕ) → SaysTrue devices
unfolding log_in
says-true devices few bytes = read-true devices bytes [] bytes (lines_of bytes) few (history-tested devices [] refl) refl refl

pub says-text : (devices : ℕ) (bytes : List ℕ) (es : List Entry) → log_in devices bytes ≡ Ok es → bytes ≡ text_of es
unfolding log_in
says-text devices bytes es = read-text devices bytes [] bytes (lines_of bytes) es refl refl
