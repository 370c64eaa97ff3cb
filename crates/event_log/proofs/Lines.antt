-- The line of an entry at the beginning of a text.
use Rattle.std.proofs.Common.{◌≡◌, ◌≢◌, ℕ, ◌+◌, ◌<◌, ◌≤◌, ◌^◌, List, [], ◌∷◌, ◌++◌, length, take, sym, ap, ◌∙◌, arith, append_assoc, length-append}
use Rattle.std.specs.Char.{digit_value}
use Rattle.std.specs.Fmt.{decimal}
use Rattle.std.specs.List.{All, AllByRecursion}
use Rattle.std.specs.Str.Parse.{AllDigits}
use Rattle.std.proofs.lemmas.List.{take_at}
use Rattle.std.proofs.lemmas.List.Elements.{All-from_recursion, All-append}
use Rattle.tx_types.specs.Line.{hex}
use Rattle.event_log.specs.Log.{IsEntry, IsHistory, steps_in}
use Rattle.event_log.specs.Text.{fields_of, line_of, numbers_of}
use Rattle.event_log.specs.declared.entry.Entry.{Entry}
use Rattle.event_log.specs.declared.entry.Entry.TheVariants.{Steps, Irq}
use Rattle.event_log.proofs.Digits.{digits-decimal, digits-hex}
use Rattle.event_log.proofs.Entries.{last-entry, step_count-append}

free-digits : (radix byte : ℕ) (ds : List ℕ) → AllDigits radix ds → radix ≤ digit_value byte → AllByRecursion (λ b. b ≢ byte) ds
free-digits radix byte [] h big = tt
free-digits radix byte (c ∷ cs) h big = (
  (λ e. let same : digit_value c ≡ digit_value byte = ap digit_value e in absurd (omega (arith, same, h.0, big))),
  free-digits radix byte cs h.1 big,
)

-- a byte that is no digit doesn't stand among digits
pub no-digit : (radix byte : ℕ) (ds : List ℕ) → AllDigits radix ds → radix ≤ digit_value byte → All (λ b. b ≢ byte) ds
no-digit radix byte ds h big = All-from_recursion (λ b. b ≢ byte) ds (free-digits radix byte ds h big)

-- an entry with numbers that are words
unfoldable pub IsWords : Entry → Type 0
IsWords (Steps n) = n < 2 ^ 32
IsWords (Irq d w) = (d < 2 ^ 32) × (w < 2 ^ 32)

no-newline-numbers : (e : Entry) → IsWords e → All (λ b. b ≢ 10) (numbers_of e)
unfolding IsWords
no-newline-numbers (Steps n) small = no-digit 10 10 (decimal n) (digits-decimal n small) (omega arith)
no-newline-numbers (Irq d w) small =
    All-append (λ b. b ≢ 10) (decimal d ++ 32 ∷ []) (hex w)
    (All-append (λ b. b ≢ 10) (decimal d) (32 ∷ []) (no-digit 10 10 (decimal d) (digits-decimal d small.0) (omega arith))
    (All-from_recursion (λ b. b ≢ 10) (32 ∷ []) ((λ e. omega (arith, e)), tt)))
    (no-digit 16 10 (hex w) (digits-hex w) (omega arith))

-- the newline of a line is its last byte
pub no-newline : (e : Entry) → IsWords e → All (λ b. b ≢ 10) (fields_of e)
no-newline (Steps n) small =
    All-append (λ b. b ≢ 10) (83 ∷ 32 ∷ []) (numbers_of (Steps n))
    (All-from_recursion (λ b. b ≢ 10) (83 ∷ 32 ∷ []) ((λ e. omega (arith, e)), ((λ e. omega (arith, e)), tt)))
    (no-newline-numbers (Steps n) small)
no-newline (Irq d w) small =
    All-append (λ b. b ≢ 10) (73 ∷ 32 ∷ []) (numbers_of (Irq d w))
    (All-from_recursion (λ b. b ≢ 10) (73 ∷ 32 ∷ []) ((λ e. omega (arith, e)), ((λ e. omega (arith, e)), tt)))
    (no-newline-numbers (Irq d w) small)

words-entry : (devices : ℕ) (e : Entry) → devices ≤ 16 → IsEntry devices e → steps_in e < 2 ^ 32 → IsWords e
unfolding IsWords
words-entry devices (Steps n) few one small = small
words-entry devices (Irq d w) few one small = (omega (arith, one.0, few), one.1)

pub words-next : (devices : ℕ) (es : List Entry) (e : Entry) → devices ≤ 16 → IsHistory devices (es ++ e ∷ []) → IsWords e
words-next devices es e few h =
    words-entry devices e few (last-entry devices es e h) (omega (arith, step_count-append es e, h.steps))

-- what is known of a line that may come next
pub record NextLine (devices : ℕ) (e : Entry) (text : List ℕ) (n : ℕ) : Type 0 where
  pub lawful : IsEntry devices e
  pub small : steps_in e < 2 ^ 32
  pub line : take n text ≡ line_of e

pub next-line : (devices n : ℕ) (es : List Entry) (e : Entry) (text more : List ℕ) → devices ≤ 16
    → ((fields after : List ℕ) → All (λ b. b ≢ 10) fields → text ≡ fields ++ 10 ∷ after → n ≡ length fields + 1)
    → IsHistory devices (es ++ e ∷ []) → text ≡ line_of e ++ more → NextLine devices e text n
next-line devices n es e text more few place h is =
    let one = last-entry devices es e h in
    let small : steps_in e < 2 ^ 32 = omega (arith, step_count-append es e, h.steps) in
    let words = words-entry devices e few one small in
    let n_is = place (fields_of e) more (no-newline e words) (is ∙ append_assoc (fields_of e) (10 ∷ []) more) in
    let len : length (line_of e) ≡ n = length-append (fields_of e) (10 ∷ []) ∙ sym n_is in
    record { lawful = one; small = small; line = ap (take n) is ∙ take_at (line_of e) more n len }
