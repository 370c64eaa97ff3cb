-- The rows of one opcode: a word with the opcode is decoded among these alone, by its other codes.
use Rattle.std.proofs.Common.{ℕ, ◌≡◌, ◌≢◌, Bool, true, false, cond, List, [], ◌∷◌, Option, Some, None, refl, sym, ap, ◌∙◌, arith}
use Rattle.std.specs.Prelude.{◌==◌, ◌&&◌, ◌||◌, not, find}
use Rattle.std.specs.Option.{option_map}
use Rattle.std.specs.List.{list_all}
use Rattle.std.proofs.lemmas.Bool.{cond_both}
use Rattle.std.proofs.lemmas.Bool.Decides.{nat_tests}
use Rattle.rv_decode.specs.Fields.{opcode, funct7}
use Rattle.rv_decode.specs.Decode.{Row, Codes, Any, Funct3, Funct7, Word, has_codes, takes, table, decoded}
use Rattle.rv_decode.specs.declared.Instr.{Instr}
use Rattle.rv_decode.proofs.Table.{and_true, decoded_pass}

-- the rows with an opcode
abbrev rows_of : ℕ → List Row → List Row
rows_of o [] = []
rows_of o (r ∷ rs) = cond (r.opcode == o) (r ∷ rows_of o rs) (rows_of o rs)

-- the instruction of the first row whose other codes a word has
abbrev among : List Row → ℕ → Option Instr
among [] w = None
among (r ∷ rs) w = cond (has_codes r.codes w) (Some (r.instruction w)) (among rs w)

mapped : (b : Bool) (r : Row) (o : Option Row) (w : ℕ) → option_map (λ x. x.instruction w) (cond b (Some r) o) ≡ cond b (Some (r.instruction w))
    (option_map (λ x. x.instruction w) o)
mapped true r o w = refl
mapped false r o w = refl

has_opcode : (r : Row) (o w : ℕ) → opcode w ≡ o → (r.opcode == o) ≡ true → takes r w ≡ has_codes r.codes w
has_opcode r o w e t = let same : (opcode w == r.opcode) ≡ true = grind (arith, nat_tests) in ap (λ b. b && has_codes r.codes w) same

other_opcode : (r : Row) (o w : ℕ) → opcode w ≡ o → (r.opcode == o) ≡ false → takes r w ≡ false
other_opcode r o w e t = let differs : (opcode w == r.opcode) ≡ false = grind (arith, nat_tests) in ap (λ b. b && has_codes r.codes w) differs

first_of : (rows : List Row) (o w : ℕ) → opcode w ≡ o → option_map (λ r. r.instruction w) (find (λ r. takes r w) rows) ≡ among (rows_of o rows) w
first_of [] o w e = refl
first_of (r ∷ rs) o w e =
    let rest = find (λ x. takes x w) rs in
    let seen = λ (b : Bool). option_map (λ x. x.instruction w) (cond b (Some r) rest) in
    let P : List Row → Type 0 = λ rows. seen (takes r w) ≡ among rows w in
    let others = first_of rs o w e in
    cond_both (r.opcode == o) (r ∷ rows_of o rs) (rows_of o rs) P
    (λ t. ap seen (has_opcode r o w e t) ∙ mapped (has_codes r.codes w) r rest w ∙ ap (cond (has_codes r.codes w) (Some (r.instruction w))) others)
    (λ t. ap seen (other_opcode r o w e t) ∙ others)

group : (o w : ℕ) → opcode w ≡ o → decoded w ≡ among (rows_of o table) w
unfolding decoded
group o w e = first_of table o w e

pub lui : (w : ℕ) → opcode w ≡ 0x37 → decoded w ≡ among (rows_of 0x37 table) w
lui w e = group 0x37 w e

pub auipc : (w : ℕ) → opcode w ≡ 0x17 → decoded w ≡ among (rows_of 0x17 table) w
auipc w e = group 0x17 w e

pub jal : (w : ℕ) → opcode w ≡ 0x6F → decoded w ≡ among (rows_of 0x6F table) w
jal w e = group 0x6F w e

pub jalr : (w : ℕ) → opcode w ≡ 0x67 → decoded w ≡ among (rows_of 0x67 table) w
jalr w e = group 0x67 w e

pub branches : (w : ℕ) → opcode w ≡ 0x63 → decoded w ≡ among (rows_of 0x63 table) w
branches w e = group 0x63 w e

pub loads : (w : ℕ) → opcode w ≡ 0x03 → decoded w ≡ among (rows_of 0x03 table) w
loads w e = group 0x03 w e

pub stores : (w : ℕ) → opcode w ≡ 0x23 → decoded w ≡ among (rows_of 0x23 table) w
stores w e = group 0x23 w e

pub immediates : (w : ℕ) → opcode w ≡ 0x13 → decoded w ≡ among (rows_of 0x13 table) w
immediates w e = group 0x13 w e

pub registers : (w : ℕ) → opcode w ≡ 0x33 → decoded w ≡ among (rows_of 0x33 table) w
registers w e = group 0x33 w e

pub fences : (w : ℕ) → opcode w ≡ 0x0F → decoded w ≡ among (rows_of 0x0F table) w
fences w e = group 0x0F w e

pub systems : (w : ℕ) → opcode w ≡ 0x73 → decoded w ≡ among (rows_of 0x73 table) w
systems w e = group 0x73 w e

-- a word with none of the opcodes has no row
abbrev is_known : ℕ → Bool
is_known o =
    o == 0x37 || (o == 0x17 ||
    (o == 0x6F || (o == 0x67 || (o == 0x63 || (o == 0x03 || (o == 0x23 || (o == 0x13 || (o == 0x33 || (o == 0x0F || (o == 0x73))))))))))

known : list_all (λ r. is_known r.opcode) table ≡ true
known = refl

known_opcode : (w : ℕ) (i : Instr) → decoded w ≡ Some i → is_known (opcode w) ≡ true
known_opcode w i e =
    let found = decoded_pass (λ r. is_known r.opcode) w i known e in
    let same : opcode w ≡ found.0.opcode = grind (arith, nat_tests, found.2) in
    ap is_known same ∙ found.1

none_unknown : (o : Option Instr) (w : ℕ) → o ≡ decoded w → is_known (opcode w) ≡ false → o ≡ None
none_unknown None w e h = refl
none_unknown (Some i) w e h = absurd (let k = known_opcode w i (sym e) in cc)

none_of : (o : ℕ) → o ≢ 0x37 → o ≢ 0x17 → o ≢ 0x6F → o ≢ 0x67 → o ≢ 0x63 → o ≢ 0x03 → o ≢ 0x23 → o ≢ 0x13 → o ≢ 0x33 → o ≢ 0x0F → o ≢ 0x73 → is_known o ≡ false
none_of o h0 h1 h2 h3 h4 h5 h6 h7 h8 h9 h10 = grind (arith, nat_tests)

pub unknown : (w : ℕ) → opcode w ≢ 0x37 → opcode w ≢ 0x17 → opcode w ≢ 0x6F → opcode w ≢ 0x67 → opcode w ≢ 0x63 → opcode w ≢ 0x03 → opcode w ≢ 0x23
    → opcode w ≢ 0x13 → opcode w ≢ 0x33 → opcode w ≢ 0x0F → opcode w ≢ 0x73 → decoded w ≡ None
unknown w h0 h1 h2 h3 h4 h5 h6 h7 h8 h9 h10 = none_unknown (decoded w) w refl (none_of (opcode w) h0 h1 h2 h3 h4 h5 h6 h7 h8 h9 h10)

-- a word of a register operation has one of three codes
abbrev has_known_code : Codes → Bool
has_known_code (Funct7 f3 f7) = f7 == 0x00 || (f7 == 0x01 || f7 == 0x20)
has_known_code _ = false

abbrev is_known_operation : Row → Bool
is_known_operation r = not (r.opcode == 0x33) || has_known_code r.codes

known_operations : list_all is_known_operation table ≡ true
known_operations = refl

known_code : (c : Codes) (w : ℕ) → has_known_code c ≡ true → has_codes c w ≡ true → funct7 w ≢ 0x00 → funct7 w ≢ 0x01 → funct7 w ≢ 0x20 → ⊥
known_code (Funct7 f3 f7) w k h zero one thirty-two = grind (arith, nat_tests)
known_code Any w k h zero one thirty-two = cc
known_code (Funct3 f3) w k h zero one thirty-two = cc
known_code (Word v) w k h zero one thirty-two = cc

none_operation : (o : Option Instr) (w : ℕ) → o ≡ decoded w → opcode w ≡ 0x33 → funct7 w ≢ 0x00 → funct7 w ≢ 0x01 → funct7 w ≢ 0x20 → o ≡ None
none_operation None w e code zero one thirty-two = refl
none_operation (Some i) w e code zero one thirty-two =
    let found = decoded_pass is_known_operation w i known_operations (sym e) in
    let row = found.0 in
    let parts = and_true (opcode w == row.opcode) (has_codes row.codes w) found.2 in
    let code_known : has_known_code row.codes ≡ true = grind (arith, nat_tests, found.1, parts.0) in
    absurd (known_code row.codes w code_known parts.1 zero one thirty-two)

pub no_operation : (w : ℕ) → opcode w ≡ 0x33 → funct7 w ≢ 0x00 → funct7 w ≢ 0x01 → funct7 w ≢ 0x20 → decoded w ≡ None
no_operation w = none_operation (decoded w) w refl
