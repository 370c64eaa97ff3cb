-- Digits of a line, and the numbers that they write.
use Rattle.std.proofs.Common.{◌≡◌, ◌≢◌, ℕ, ◌+◌, ◌-◌, ◌*◌, ◌/◌, ◌%◌, ◌^◌, ◌<◌, ◌≤◌, ◌==◌, false, List, [], ◌∷◌, ◌++◌, length, take, drop, get_or, zero, suc}
use Rattle.std.proofs.Common.{Option, None, Some, refl, sym, ap, ◌∙◌, subst, arith, append_assoc, length-append}
use Rattle.std.specs.Char.{digit_value, digit_char}
use Rattle.std.specs.Fmt.{decimal}
use Rattle.std.specs.List.{All, AllByRecursion, position, position_or_len, slice_range}
use Rattle.std.specs.Option.{SomeIff, unwrap_or}
use Rattle.std.specs.Str.Parse.{AllDigits, digits_value}
use Rattle.std.proofs.lemmas.Bool.{ne_eqb}
use Rattle.std.proofs.lemmas.Bool.Decides.{nat_tests}
use Rattle.std.proofs.lemmas.Fmt.{decimal_is_IsNumeral}
use Rattle.std.proofs.lemmas.Int.Digits.{digits_value_more}
use Rattle.std.proofs.lemmas.List.{take_at, drop_at}
use Rattle.std.proofs.lemmas.List.Elements.{recursion_from_All}
use Rattle.std.proofs.lemmas.Str.{digit_value-digit_char}
use Rattle.std.proofs.lemmas.Str.Parse.{digits_value-take-le}
use Rattle.tx_types.specs.Line.{hex}
use Rattle.event_log.specs.Text.{line_of, numbers_of}
use Rattle.event_log.specs.declared.entry.Entry.{Entry}
use Rattle.event_log.specs.declared.entry.Entry.TheVariants.{Irq, Steps}
use Rattle.event_log.specs.Log.{steps_in}

pub digit-below : (radix : ℕ) (ds : List ℕ) (i : ℕ) → AllDigits radix ds → i < length ds → digit_value (get_or ds i 0) < radix
digit-below radix [] i h below = absurd (omega arith)
digit-below radix (c ∷ cs) zero h below = h.0
digit-below radix (c ∷ cs) (suc i) h below = digit-below radix cs i h.1 (omega arith)

pub unwrapped : (o : Option ℕ) (P : Type 0) (v : ℕ) → SomeIff o P v → P → unwrap_or o 0 ≡ v
unwrapped None P v h p = absurd (h p)
unwrapped (Some x) P v h p = h.1

-- one digit more of a number that is a word
pub next-digit : (radix : ℕ) (ds : List ℕ) (i n digit : ℕ) → 1 ≤ radix → AllDigits radix ds → digits_value radix ds < 2 ^ 32
    → i < length ds → n ≡ digits_value radix (take i ds) → digit ≡ digit_value (get_or ds i 0)
    → (n * radix % 4294967296 + digit) % 4294967296 ≡ digits_value radix (take (i + 1) ds)
next-digit radix ds i n digit some all word below is at =
    let more = digits_value_more radix ds i below in
    let part = digits_value-take-le radix ds (i + 1) some in
    let value : n * radix + digit ≡ digits_value radix (take (i + 1) ds)
    = ap (λ k. k * radix + digit) is ∙ ap (λ k. digits_value radix (take i ds) * radix + k) at ∙ sym more in
    let fits : n * radix + digit < 4294967296 = omega (arith, value, part, word) in
    omega (arith, fits, value)

nibble : (w k : ℕ) → digit_value (digit_char (w / 16 ^ k % 16)) ≡ w / 16 ^ k % 16
nibble w k = digit_value-digit_char (w / 16 ^ k % 16) (omega arith)

nibble-small : (w k : ℕ) → digit_value (digit_char (w / 16 ^ k % 16)) < 16
nibble-small w k = subst (λ v. v < 16) (sym (nibble w k)) (omega arith)

pub digits-hex : (w : ℕ) → AllDigits 16 (hex w)
digits-hex w = (
  nibble-small w 7,
  (
    nibble-small w 6,
    (
      nibble-small w 5,
      (
        nibble-small w 4,
        (
          nibble-small w 3,
          (nibble-small w 2, (nibble-small w 1, (nibble-small w 0, tt))),
        ),
      ),
    ),
  ),
)

-- the digits of a word write it
pub value-hex : (w : ℕ) → w < 2 ^ 32 → digits_value 16 (hex w) ≡ w
value-hex w word =
    omega (arith, nibble w 7, nibble w 6, nibble w 5, nibble w 4, nibble w 3, nibble w 2, nibble w 1, nibble w 0)

-- the place of a byte that stands nowhere before
newline-place : (fields more : List ℕ) → AllByRecursion (λ b. b ≢ 10) fields
    → position_or_len (λ b. b == 10) (fields ++ 10 ∷ more) ≡ length fields
newline-place [] more h = refl
newline-place (b ∷ bs) more h =
    let other : (b == 10) ≡ false = ne_eqb b 10 h.0 in
    rw other (ap (λ n. 1 + n) (newline-place bs more h.1) ∙ omega arith)

pub newline-at : (fields more : List ℕ) → All (λ b. b ≢ 10) fields
    → position (λ b. b == 10) (fields ++ 10 ∷ more) ≡ Some (length fields)
newline-at fields more h =
    let place = newline-place fields more (recursion_from_All (λ b. b ≢ 10) fields h) in
    let short : length fields < length (fields ++ 10 ∷ more) = simp length-append (omega arith) in
    rw place (grind (arith, nat_tests, short))

-- the numbers of an interrupt's line, from after
pub irq-numbers : (numbers : List ℕ) (d w : ℕ) → numbers ≡ numbers_of (Irq d w)
    → (take (length numbers - 8 - 1) numbers ≡ decimal d) × (slice_range numbers (length numbers - 8) (length numbers) ≡ hex w)
irq-numbers numbers d w is =
    let text : numbers ≡ decimal d ++ 32 ∷ hex w = is ∙ append_assoc (decimal d) (32 ∷ []) (hex w) in
    let len : length numbers ≡ length (decimal d) + 9 = ap length text ∙ length-append (decimal d) (32 ∷ hex w) in
    let front : length (decimal d) ≡ length numbers - 8 - 1 = omega (arith, len) in
    let whole : length (decimal d ++ 32 ∷ []) ≡ length numbers - 8 = length-append (decimal d) (32 ∷ []) ∙ omega (arith, len) in
    let eight : length numbers - (length numbers - 8) ≡ 8 = omega (arith, len) in (
      ap (take (length numbers - 8 - 1)) text ∙ take_at (decimal d) (32 ∷ hex w) (length numbers - 8 - 1) front,
      ap (take (length numbers - (length numbers - 8)))
          (ap (drop (length numbers - 8)) is ∙ drop_at (decimal d ++ 32 ∷ []) (hex w) (length numbers - 8) whole)
          ∙ ap (λ k. take k (hex w)) eight,
    )

pub value-decimal : (n : ℕ) → n < 2 ^ 32 → digits_value 10 (decimal n) ≡ n
value-decimal n small = (decimal_is_IsNumeral n (omega arith)).1

pub digits-decimal : (n : ℕ) → n < 2 ^ 32 → AllDigits 10 (decimal n)
digits-decimal n small = (decimal_is_IsNumeral n (omega arith)).0.1

-- a number that is read from the digits of its text
pub read-back : (radix n value : ℕ) (digits text : List ℕ) → digits ≡ text
    → (AllDigits radix digits → digits_value radix digits < 2 ^ 32 → n ≡ digits_value radix digits)
    → AllDigits radix text → digits_value radix text ≡ value → value < 2 ^ 32 → n ≡ value
read-back radix n value digits text same reads all is word =
    let here : digits_value radix digits ≡ value = ap (digits_value radix) same ∙ is in
    reads (subst (AllDigits radix) (sym same) all) (omega (arith, here, word)) ∙ here

-- what stands between the letter and the newline of a line
pub middle : (a b : ℕ) (xs line : List ℕ) → line ≡ a ∷ b ∷ (xs ++ 10 ∷ []) → slice_range line 2 (length line - 1) ≡ xs
middle a b xs line is =
    let len : length line ≡ length xs + 3 = ap length is ∙ omega (arith, length-append xs (10 ∷ [])) in
    let n : length xs ≡ length line - 1 - 2 = omega (arith, len) in
    ap (λ ys. take (length line - 1 - 2) (drop 2 ys)) is ∙ take_at xs (10 ∷ []) (length line - 1 - 2) n

-- the entry of steps that a line's number may be
pub guess-steps : (line : List ℕ) (e : Entry) (n : ℕ) → get_or line 0 0 ≡ 83 → steps_in e < 2 ^ 32 → line ≡ line_of e
    → (AllDigits 10 (slice_range line 2 (length line - 1)) → digits_value 10 (slice_range line 2 (length line - 1)) < 2 ^ 32
    → n ≡ digits_value 10 (slice_range line 2 (length line - 1)))
    → Some (Steps n) ≡ Some e
guess-steps line (Steps m) n first small is reads =
    let same : n ≡ m = read-back 10 n m _ (decimal m) (middle 83 32 (decimal m) line is) reads
    (digits-decimal m small) (value-decimal m small) small in
    ap (λ k. Some (Steps k)) same
guess-steps line (Irq d w) n first small is reads =
    let other : get_or line 0 0 ≡ 73 = ap (λ ys. get_or ys 0 0) is in
    absurd (omega (arith, other, first))
