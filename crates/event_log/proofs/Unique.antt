-- No two histories share a text, and none shares one with a bad line.
use Rattle.std.proofs.Common.{◌≡◌, ◌≢◌, ℕ, ◌+◌, ◌≤◌, List, [], ◌∷◌, ◌++◌, length, get_or, Result, Ok, Err, refl, sym, ap, ◌∙◌, subst, arith, append_assoc}
use Rattle.std.proofs.Common.{append-nil, length-append, IfOk}
use Rattle.std.specs.Result.{IfErr}
use Rattle.std.specs.Fmt.{decimal}
use Rattle.std.specs.List.{AllByRecursion}
use Rattle.std.specs.Str.Parse.{digits_value}
use Rattle.std.proofs.lemmas.Fmt.{decimal_injective}
use Rattle.std.proofs.lemmas.List.Elements.{recursion_from_All}
use Rattle.tx_types.specs.Line.{hex}
use Rattle.event_log.specs.Log.{Log, IsHistory}
use Rattle.event_log.specs.Text.{fields_of, line_of, text_of, Ends, IsLogText, IsBadLine, TellsBadLine}
use Rattle.event_log.specs.Reading.{IsReadAs, IsRefusedAt, TextsApart, NoBadLine, OneBadLine}
use Rattle.event_log.specs.declared.reading.LogErr.{LogErr}
use Rattle.event_log.specs.declared.reading.LogErr.TheVariants.{NoMemory, BadLine}
use Rattle.event_log.specs.declared.entry.Entry.{Entry}
use Rattle.event_log.specs.declared.entry.Entry.TheVariants.{Steps, Irq}
use Rattle.event_log.proofs.Digits.{digits-decimal, value-hex}
use Rattle.event_log.proofs.Entries.{front-history}
use Rattle.event_log.proofs.Lines.{IsWords, no-digit, no-newline, words-next}

-- two texts that agree up to a byte, and after it
split-byte : (c : ℕ) (a b x y : List ℕ) → AllByRecursion (λ v. v ≢ c) a → AllByRecursion (λ v. v ≢ c) b
    → a ++ c ∷ x ≡ b ++ c ∷ y → (a ≡ b) × (x ≡ y)
split-byte c [] [] x y p q e = (refl, cc)
split-byte c [] (b ∷ bs) x y p q e = let same : b ≡ c = cc in absurd (q.0 same)
split-byte c (a ∷ as') [] x y p q e = let same : a ≡ c = cc in absurd (p.0 same)
split-byte c (a ∷ as') (b ∷ bs) x y p q e =
    let tail : as' ++ c ∷ x ≡ bs ++ c ∷ y = cc in
    let head : a ≡ b = cc in
    let rest = split-byte c as' bs x y p.1 q.1 tail in
    (cc, rest.1)

fields-unique : (e f : Entry) → IsWords e → IsWords f → fields_of e ≡ fields_of f → e ≡ f
unfolding IsWords
fields-unique (Steps n) (Steps m) p q same =
    let text : decimal n ≡ decimal m = cc in
    ap (λ k. Steps k) (decimal_injective n m (omega arith) (omega arith) text)
fields-unique (Steps n) (Irq d w) p q same =
    let letter : 83 ≡ 73 = ap (λ xs. get_or xs 0 0) same in absurd (omega (arith, letter))
fields-unique (Irq d w) (Steps n) p q same =
    let letter : 73 ≡ 83 = ap (λ xs. get_or xs 0 0) same in absurd (omega (arith, letter))
fields-unique (Irq d w) (Irq a b) p q same =
    let text : (decimal d ++ 32 ∷ []) ++ hex w ≡ (decimal a ++ 32 ∷ []) ++ hex b = cc in
    let parts = split-byte 32 (decimal d) (decimal a) (hex w) (hex b)
    (recursion_from_All (λ v. v ≢ 32) (decimal d) (no-digit 10 32 (decimal d) (digits-decimal d p.0) (omega arith)))
    (recursion_from_All (λ v. v ≢ 32) (decimal a) (no-digit 10 32 (decimal a) (digits-decimal a q.0) (omega arith)))
    (sym (append_assoc (decimal d) (32 ∷ []) (hex w)) ∙ text ∙ append_assoc (decimal a) (32 ∷ []) (hex b)) in
    let device : d ≡ a = decimal_injective d a (omega (arith, p.0)) (omega (arith, q.0)) parts.0 in
    let word : w ≡ b = sym (value-hex w p.1) ∙ ap (digits_value 16) parts.1 ∙ value-hex b q.1 in
    cc

-- a text begins with one line
pub line-unique : (e f : Entry) (x y : List ℕ) → IsWords e → IsWords f → line_of e ++ x ≡ line_of f ++ y → (e ≡ f) × (x ≡ y)
line-unique e f x y p q same =
    let parts = split-byte 10 (fields_of e) (fields_of f) x y
    (recursion_from_All (λ v. v ≢ 10) (fields_of e) (no-newline e p))
    (recursion_from_All (λ v. v ≢ 10) (fields_of f) (no-newline f q))
    (sym (append_assoc (fields_of e) (10 ∷ []) x) ∙ same ∙ append_assoc (fields_of f) (10 ∷ []) y) in
    (fields-unique e f p q parts.0, parts.1)

-- a prefix of a history is a history
pub next-history : (devices : ℕ) (before : List Entry) (e : Entry) (es : List Entry) → IsHistory devices (before ++ e ∷ es)
    → IsHistory devices (before ++ e ∷ [])
next-history devices before e es h =
    front-history devices (before ++ e ∷ []) es (subst (IsHistory devices) (sym (append_assoc before (e ∷ []) es)) h)

-- two readings of a text as far as each goes are the same
same-reading : (devices : ℕ) (before es fs : List Entry) (rest more : List ℕ) → devices ≤ 16
    → IsHistory devices (before ++ es) → IsHistory devices (before ++ fs)
    → Ends devices (before ++ es) rest → Ends devices (before ++ fs) more
    → text_of es ++ rest ≡ text_of fs ++ more → es ≡ fs
same-reading devices before [] [] rest more few p q ends stops same = refl
same-reading devices before [] (f ∷ fs) rest more few p q ends stops same =
    absurd (ends f (text_of fs ++ more)
    (subst (λ xs. IsHistory devices (xs ++ f ∷ [])) (sym (append-nil before)) (next-history devices before f fs q))
    (same ∙ append_assoc (line_of f) (text_of fs) more))
same-reading devices before (e ∷ es) [] rest more few p q ends stops same =
    absurd (stops e (text_of es ++ rest)
    (subst (λ xs. IsHistory devices (xs ++ e ∷ [])) (sym (append-nil before)) (next-history devices before e es p))
    (sym same ∙ append_assoc (line_of e) (text_of es) rest))
same-reading devices before (e ∷ es) (f ∷ fs) rest more few p q ends stops same =
    let parts = line-unique e f (text_of es ++ rest) (text_of fs ++ more)
    (words-next devices before e few (next-history devices before e es p))
    (words-next devices before f few (next-history devices before f fs q))
    (sym (append_assoc (line_of e) (text_of es) rest) ∙ same ∙ append_assoc (line_of f) (text_of fs) more) in
    let longer : before ++ e ∷ es ≡ (before ++ e ∷ []) ++ es = sym (append_assoc before (e ∷ []) es) in
    let other : before ++ f ∷ fs ≡ (before ++ e ∷ []) ++ fs
    = ap (λ g. before ++ g ∷ fs) (sym parts.0) ∙ sym (append_assoc before (e ∷ []) fs) in
    let tail = same-reading devices (before ++ e ∷ []) es fs rest more few
    (subst (IsHistory devices) longer p) (subst (IsHistory devices) other q)
    (subst (λ xs. Ends devices xs rest) longer ends) (subst (λ xs. Ends devices xs more) other stops) parts.1 in
    ap (λ g. g ∷ es) parts.0 ∙ ap (λ xs. f ∷ xs) tail

-- nothing follows the end of a text
ends-empty : (devices : ℕ) (es : List Entry) → Ends devices es []
ends-empty devices es = λ e more h same.
    let len : 0 ≡ length (fields_of e) + 1 + length more
    = ap length same ∙ length-append (line_of e) more ∙ ap (λ k. k + length more) (length-append (fields_of e) (10 ∷ [])) in
    absurd (omega (arith, len))

pub texts-apart : (devices : ℕ) → TextsApart devices
texts-apart devices few es fs p q same =
    same-reading devices [] es fs [] [] few p q (ends-empty devices es) (ends-empty devices fs)
    (append-nil (text_of es) ∙ same ∙ sym (append-nil (text_of fs)))

pub no-bad-line : (devices : ℕ) → NoBadLine devices
no-bad-line devices few es line bytes p q =
    let same : text_of es ++ [] ≡ text_of q.before ++ q.rest = append-nil (text_of es) ∙ sym p.text ∙ q.text in
    let alike = same-reading devices [] es q.before [] q.rest few p.history q.history (ends-empty devices es) q.bad same in
    let len : length (text_of es) + 0 ≡ length (text_of q.before) + length q.rest
    = sym (length-append (text_of es) []) ∙ ap length same ∙ length-append (text_of q.before) q.rest in
    omega (arith, len, q.follows, ap (λ xs. length (text_of xs)) alike)

pub one-bad-line : (devices : ℕ) → OneBadLine devices
one-bad-line devices few line other bytes p q =
    let alike = same-reading devices [] p.before q.before p.rest q.rest few p.history q.history p.bad q.bad
    (sym p.text ∙ q.text) in
    p.number ∙ ap (λ xs. length xs + 1) alike ∙ sym q.number

-- what a reading says of a text's history and of its first bad line
pub reads-whole : (devices : ℕ) (bytes : List ℕ) (r : Result Log LogErr) → devices ≤ 16
    → IfOk r (λ h. IsLogText devices h.entries bytes) → IfErr r (TellsBadLine devices bytes)
    → (es : List Entry) → IsLogText devices es bytes → IsReadAs es r
reads-whole devices bytes (Ok h) few good bad es text = texts-apart devices few h.entries es good.history text.history (sym good.text ∙ text.text)
reads-whole devices bytes (Err NoMemory) few good bad es text = tt
reads-whole devices bytes (Err (BadLine line)) few good bad es text = no-bad-line devices few es line bytes text bad

pub refuses-first : (devices : ℕ) (bytes : List ℕ) (r : Result Log LogErr) → devices ≤ 16
    → IfOk r (λ h. IsLogText devices h.entries bytes) → IfErr r (TellsBadLine devices bytes)
    → (line : ℕ) → IsBadLine devices line bytes → IsRefusedAt line r
refuses-first devices bytes (Ok h) few good bad line first = no-bad-line devices few h.entries line bytes good first
refuses-first devices bytes (Err NoMemory) few good bad line first = tt
refuses-first devices bytes (Err (BadLine other)) few good bad line first = one-bad-line devices few other line bytes bad first
