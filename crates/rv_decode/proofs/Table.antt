-- The table: a word that a row takes decodes to the row's instruction, since no two rows take one word.
use Rattle.std.proofs.Common.{ℕ, ◌≡◌, Bool, true, false, List, [], ◌∷◌, Option, Some, refl, sym, ap, ◌∙◌, arith, zero, suc, cond}
use Rattle.std.specs.Prelude.{◌==◌, ◌&&◌, ◌||◌, not, find, nat_lt}
use Rattle.std.specs.List.{slice_get, list_all, AllByRecursion}
use Rattle.std.specs.Option.{option_map}
use Rattle.std.proofs.lemmas.Bool.Decides.{nat_tests}
use Rattle.std.proofs.lemmas.Bool.{cond_both}
use Rattle.rv_decode.specs.Decode.{Row, Codes, Any, Funct3, Funct7, Word, has_codes, takes, table, decoded}
use Rattle.rv_decode.specs.declared.Instr.{Instr}

-- no word has both codes
abbrev apart_codes : Codes → Codes → Bool
apart_codes (Funct3 f) (Funct3 g) = not (f == g)
apart_codes (Funct3 f) (Funct7 g g7) = not (f == g)
apart_codes (Funct7 f f7) (Funct3 g) = not (f == g)
apart_codes (Funct7 f f7) (Funct7 g g7) = not (f == g) || not (f7 == g7)
apart_codes (Word v) (Word w) = not (v == w)
apart_codes _ _ = false

pub and_true : (a b : Bool) → (a && b) ≡ true → (a ≡ true) × (b ≡ true)
and_true a b h = (grind arith, grind arith)

abbrev apart : Row → Row → Bool
apart r s = not (r.opcode == s.opcode) || apart_codes r.codes s.codes

abbrev all_apart : List Row → Bool
all_apart [] = true
all_apart (r ∷ rs) = list_all (apart r) rs && all_apart rs

-- the codes have the bits of their fields
abbrev pub fit_codes : Codes → Bool
fit_codes (Funct3 f) = nat_lt f 8
fit_codes (Funct7 f f7) = nat_lt f 8 && nat_lt f7 128
fit_codes _ = true

abbrev pub fits : Row → Bool
fits r = nat_lt r.opcode 128 && fit_codes r.codes

table_apart : all_apart table ≡ true
table_apart = refl

table_fits : list_all fits table ≡ true
table_fits = refl

codes_apart : (c d : Codes) (w : ℕ) → apart_codes c d ≡ true → has_codes d w ≡ true → has_codes c w ≡ false
codes_apart Any d w a h = cc
codes_apart (Funct3 f) Any w a h = cc
codes_apart (Funct3 f) (Funct3 g) w a h = grind (arith, nat_tests)
codes_apart (Funct3 f) (Funct7 g g7) w a h = grind (arith, nat_tests)
codes_apart (Funct3 f) (Word v) w a h = cc
codes_apart (Funct7 f f7) Any w a h = cc
codes_apart (Funct7 f f7) (Funct3 g) w a h = grind (arith, nat_tests)
codes_apart (Funct7 f f7) (Funct7 g g7) w a h = grind (arith, nat_tests)
codes_apart (Funct7 f f7) (Word v) w a h = cc
codes_apart (Word v) Any w a h = cc
codes_apart (Word v) (Funct3 g) w a h = cc
codes_apart (Word v) (Funct7 g g7) w a h = cc
codes_apart (Word v) (Word u) w a h = grind (arith, nat_tests)

rows_apart : (r s : Row) (w : ℕ) → apart r s ≡ true → takes s w ≡ true → takes r w ≡ false
rows_apart r s w a h = grind (arith, nat_tests, codes_apart)

list_all-at : (p : Row → Bool) (rows : List Row) (k : ℕ) (row : Row) → list_all p rows ≡ true → slice_get rows k ≡ Some row → p row ≡ true
list_all-at p [] k row a h = cc
list_all-at p (r ∷ rs) zero row a h =
    let e : r ≡ row = cc in
    ap p (sym e) ∙ (and_true (p r) (list_all p rs) a).0
list_all-at p (r ∷ rs) (suc k) row a h = list_all-at p rs k row (and_true (p r) (list_all p rs) a).1 h

-- the row that takes a word is the one found
found : (rows : List Row) (k : ℕ) (row : Row) (w : ℕ) → all_apart rows ≡ true → slice_get rows k ≡ Some row → takes row w ≡ true
    → find (λ r. takes r w) rows ≡ Some row
found [] k row w a h t = cc
found (r ∷ rs) zero row w a h t =
    let e : r ≡ row = cc in
    ap (λ b. cond b (Some r) (find (λ r. takes r w) rs)) (ap (λ x. takes x w) e ∙ t) ∙ h
found (r ∷ rs) (suc k) row w a h t =
    let parts = and_true (list_all (apart r) rs) (all_apart rs) a in
    let other = rows_apart r row w (list_all-at (apart r) rs k row parts.0 h) t in
    ap (λ b. cond b (Some r) (find (λ r. takes r w) rs)) other ∙ found rs k row w parts.1 h t

pub row_fits : (k : ℕ) (row : Row) → slice_get table k ≡ Some row → fits row ≡ true
row_fits k row h = list_all-at fits table k row table_fits h

pub row_decodes : (k : ℕ) (row : Row) (w : ℕ) → slice_get table k ≡ Some row → takes row w ≡ true → decoded w ≡ Some (row.instruction w)
unfolding decoded
row_decodes k row w h t = ap (option_map (λ r. r.instruction w)) (found table k row w table_apart h t)

-- a row that is found takes the word, and what holds of each row holds of it
found_row : (rows : List Row) (P : Row → Type 0) (w : ℕ) (i : Instr) → AllByRecursion P rows
    → option_map (λ r. r.instruction w) (find (λ r. takes r w) rows) ≡ Some i → (row : Row) × P row × (takes row w ≡ true) × (row.instruction w ≡ i)
found_row [] P w i all h = absurd cc
found_row (r ∷ rs) P w i all h =
    let Q : Option Row → Type 0 = λ o. option_map (λ x. x.instruction w) o ≡ Some i → (row : Row) × P row × (takes row w ≡ true) × (row.instruction w ≡ i) in
    cond_both (takes r w) (Some r) (find (λ x. takes x w) rs) Q (λ t e. (r, all.0, t, cc)) (λ _ e. found_row rs P w i all.1 e) h

pub decoded_row : (P : Row → Type 0) (w : ℕ) (i : Instr) → AllByRecursion P table → decoded w ≡ Some i → (row : Row) × P row × (takes row w ≡ true)
    × (row.instruction w ≡ i)
unfolding decoded
decoded_row P w i all h = found_row table P w i all h

-- a test that each row passes is passed by the row of each word that decodes
all_pass : (p : Row → Bool) (rows : List Row) → list_all p rows ≡ true → AllByRecursion (λ r. p r ≡ true) rows
all_pass p [] h = tt
all_pass p (r ∷ rs) h = let both = and_true (p r) (list_all p rs) h in (both.0, all_pass p rs both.1)

pub decoded_pass : (p : Row → Bool) (w : ℕ) (i : Instr) → list_all p table ≡ true → decoded w ≡ Some i → (row : Row) × (p row ≡ true) × (takes row w ≡ true)
    × (row.instruction w ≡ i)
decoded_pass p w i h e = decoded_row (λ r. p r ≡ true) w i (all_pass p table h) e
