-- Which words are numbers: the decimal texts of the numbers that are small enough.
use Rattle.std.proofs.Common.{◌≡◌, ℕ, ◌^◌, ◌<◌, ◌≤◌, Bool, true, false, ◌&&◌, cond, nat_le, List, Option, Some, None, Result, Ok, Err, refl, sym, ap, ◌∙◌}
use Rattle.std.proofs.Common.{arith}
use Rattle.std.specs.Fmt.{decimal}
use Rattle.std.specs.Str.{bytes_eq}
use Rattle.std.specs.Str.Parse.{digits_value, ParsesUnsigned}
use Rattle.std.proofs.lemmas.Bool.{cond_both}
use Rattle.std.proofs.lemmas.Bool.Decides.{nat_tests}
use Rattle.std.proofs.lemmas.Fmt.{decimal_is_IsNumeral, parse-decimal}
use Rattle.std.proofs.lemmas.Slice.Eq.{bytes_eq-Decides}
use Rattle.board_run.specs.Command.{number}

-- the decimal text of a number is that number
number-decimal : (word : List ℕ) (n most : ℕ) → n < 2 ^ 64 → n ≤ most → word ≡ decimal n → number word most ≡ Some n
unfolding number
number-decimal word n most small fits is =
    let value : digits_value 10 word ≡ n = ap (digits_value 10) is ∙ (decimal_is_IsNumeral n small).1 in
    let text : bytes_eq (decimal (digits_value 10 word)) word ≡ true = (bytes_eq-Decides (decimal (digits_value 10 word)) word).1 (ap decimal value ∙ sym is) in
    grind (arith, nat_tests)

none_unless : (b : Bool) (n : ℕ) → (b ≡ true → ⊥) → cond b (Some n) None ≡ None
none_unless true n h = absurd (h refl)
none_unless false n h = refl

-- a word that is no such text is no number
number-none : (word : List ℕ) (most : ℕ) → ((n : ℕ) → n ≤ most → word ≡ decimal n → ⊥) → number word most ≡ None
unfolding number
number-none word most h =
    let n = digits_value 10 word in
    none_unless (bytes_eq (decimal n) word && nat_le n most) n (λ e.
    let text : bytes_eq (decimal n) word ≡ true = grind (arith) in
    let small : n ≤ most = grind (arith, nat_tests) in
    h n small (sym ((bytes_eq-Decides (decimal n) word).0 text)))

-- what a parsed number makes of the word: itself where it is small enough and its text is the word
abbrev pub if_parsed : {E : Type 0} → List ℕ → (most : ℕ) → Result ℕ E → Option ℕ
if_parsed word most (Ok n) = cond (bytes_eq (decimal n) word && nat_le n most) (Some n) None
if_parsed word most (Err _) = None

pub number_parsed : {E : Type 0} (word : List ℕ) (most : ℕ) (parsed : Result ℕ E)
    → most < 2 ^ 32 → ParsesUnsigned 32 10 word parsed → number word most ≡ if_parsed word most parsed
number_parsed {E} word most (Ok n) fits parses =
    cond_both (bytes_eq (decimal n) word && nat_le n most) (Some n) None (λ o. number word most ≡ o)
    (λ e.
    let small : n ≤ most = grind (arith, nat_tests) in
    let text : bytes_eq (decimal n) word ≡ true = grind arith in
    number-decimal word n most (omega arith) small (sym ((bytes_eq-Decides (decimal n) word).0 text)))
    (λ e. number-none word most (λ m small is.
    let same = parse-decimal {E = E} 32 m word (Ok n) (omega arith) (omega arith) is parses in
    let value : n ≡ m = cc in
    let text = (bytes_eq-Decides (decimal n) word).1 (ap decimal value ∙ sym is) in
    absurd (grind (arith, nat_tests))))
number_parsed {E} word most (Err e) fits parses =
    number-none word most (λ m small is.
    let same = parse-decimal {E = E} 32 m word (Err e) (omega arith) (omega arith) is parses in
    absurd cc)
