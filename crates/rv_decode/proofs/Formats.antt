-- The fields of a format's word are its fields, and a word is the word of its own fields.
use Rattle.std.proofs.Common.{ℕ, ℤ, ◌≡◌, ◌+◌, ◌*◌, ◌/◌, ◌%◌, ◌^◌, ◌<◌, bit_or, arith, ap, ◌∙◌}
use Rattle.std.specs.Int.Bits.{or_shifted_r}
use Rattle.machine_words.specs.Bits.{bits, signed}
use Rattle.rv_decode.specs.Encode.{field, r_word, i_word, s_word, b_word, u_word, j_word}
use Rattle.rv_decode.specs.Fields.{opcode, rd, funct3, rs1, rs2, funct7, i_immediate, s_immediate, b_immediate, u_immediate, j_immediate}
use Rattle.rv_decode.specs.WellFormed.{FitsR, FitsI, FitsS, FitsB, FitsU, FitsJ}
use Rattle.rv_decode.proofs.Immediates.{field_at-lt, signed-field, field-signed, twelve_zeros, even_field}

-- the fields of the R format
pub record IsRWord (w o f3 f7 d a b : ℕ) : Type 0 where
  pub code : opcode w ≡ o
  pub code3 : funct3 w ≡ f3
  pub code7 : funct7 w ≡ f7
  pub destination : rd w ≡ d
  pub first : rs1 w ≡ a
  pub second : rs2 w ≡ b

pub r_fields : (o f3 f7 d a b : ℕ) → o < 2 ^ 7 → f3 < 2 ^ 3 → f7 < 2 ^ 7 → FitsR d a b → IsRWord (r_word o f3 f7 d a b) o f3 f7 d a b
r_fields o f3 f7 d a b code code3 code7 fits =
    record {
      code = omega arith;
      code3 = omega arith;
      code7 = omega arith;
      destination = omega arith;
      first = omega arith;
      second = omega arith;
    }

pub r_again : (w : ℕ) → w < 2 ^ 32 → r_word (opcode w) (funct3 w) (funct7 w) (rd w) (rs1 w) (rs2 w) ≡ w
r_again w below = omega arith

-- the fields of the I format
pub record IsIWord (w o f3 d a : ℕ) (z : ℤ) : Type 0 where
  pub code : opcode w ≡ o
  pub code3 : funct3 w ≡ f3
  pub destination : rd w ≡ d
  pub source : rs1 w ≡ a
  pub immediate : i_immediate w ≡ z

pub i_fields : (o f3 d a : ℕ) (z : ℤ) → o < 2 ^ 7 → f3 < 2 ^ 3 → FitsI d a z → IsIWord (i_word o f3 d a z) o f3 d a z
i_fields o f3 d a z code code3 fits =
    let small = field_at-lt (2 ^ 11) z (omega arith) in
    let top : bits (i_word o f3 d a z) 20 12 ≡ field 12 z = omega arith in
    record {
      code = omega arith;
      code3 = omega arith;
      destination = omega arith;
      source = omega arith;
      immediate = ap (signed 12) top ∙ signed-field (2 ^ 11) z fits.2.low fits.2.high;
    }

pub i_again : (w : ℕ) → w < 2 ^ 32 → i_word (opcode w) (funct3 w) (rd w) (rs1 w) (i_immediate w) ≡ w
i_again w below =
    let n = bits w 20 12 in
    ap (λ m. opcode w + 2 ^ 7 * rd w + 2 ^ 12 * funct3 w + 2 ^ 15 * rs1 w + 2 ^ 20 * m) (field-signed (2 ^ 11) n (omega arith))
    ∙ omega arith

-- the fields of the S and B formats
pub record IsSWord (w o f3 a b : ℕ) (z : ℤ) : Type 0 where
  pub code : opcode w ≡ o
  pub code3 : funct3 w ≡ f3
  pub first : rs1 w ≡ a
  pub second : rs2 w ≡ b
  pub immediate : s_immediate w ≡ z

pub record IsBWord (w o f3 a b : ℕ) (z : ℤ) : Type 0 where
  pub code : opcode w ≡ o
  pub code3 : funct3 w ≡ f3
  pub first : rs1 w ≡ a
  pub second : rs2 w ≡ b
  pub immediate : b_immediate w ≡ z

pub s_fields : (o f3 a b : ℕ) (z : ℤ) → o < 2 ^ 7 → f3 < 2 ^ 3 → FitsS a b z → IsSWord (s_word o f3 a b z) o f3 a b z
s_fields o f3 a b z code code3 fits =
    let n = field 12 z in
    let small = field_at-lt (2 ^ 11) z (omega arith) in
    let r = r_fields o f3 (bits n 5 7) (bits n 0 5) a b code code3 (omega arith) (omega arith, fits.0, fits.1) in
    let whole : bits (s_word o f3 a b z) 25 7 * 2 ^ 5 + bits (s_word o f3 a b z) 7 5 ≡ n = ap (λ x. x * 2 ^ 5 + bits (s_word o f3 a b z) 7 5) r.code7
    ∙ ap (λ x. bits n 5 7 * 2 ^ 5 + x) r.destination ∙ omega arith in
    record {
      code = r.code;
      code3 = r.code3;
      first = r.first;
      second = r.second;
      immediate = ap (signed 12) whole ∙ signed-field (2 ^ 11) z fits.2.low fits.2.high;
    }

pub s_again : (w : ℕ) → w < 2 ^ 32 → s_word (opcode w) (funct3 w) (rs1 w) (rs2 w) (s_immediate w) ≡ w
s_again w below =
    let n = bits w 25 7 * 2 ^ 5 + bits w 7 5 in
    let whole = field-signed (2 ^ 11) n (omega arith) in
    ap (λ m. r_word (opcode w) (funct3 w) (bits m 5 7) (bits m 0 5) (rs1 w) (rs2 w)) whole
    ∙ ap (λ x. r_word (opcode w) (funct3 w) x (bits n 0 5) (rs1 w) (rs2 w)) (omega arith)
    ∙ ap (λ x. r_word (opcode w) (funct3 w) (funct7 w) x (rs1 w) (rs2 w)) (omega arith)
    ∙ r_again w below

-- a B immediate from the places of rd and funct7
abbrev b_number : ℕ → ℕ → ℕ
b_number d f7 = f7 / 2 ^ 6 * 2 ^ 12 + d % 2 * 2 ^ 11 + f7 % 2 ^ 6 * 2 ^ 5 + d / 2 * 2

b_bits : (w : ℕ) → bits w 31 1 * 2 ^ 12 + bits w 7 1 * 2 ^ 11 + bits w 25 6 * 2 ^ 5 + bits w 8 4 * 2 ≡ b_number (rd w) (funct7 w)
b_bits w =
    let top : bits w 31 1 ≡ funct7 w / 2 ^ 6 = omega arith in
    let eleven : bits w 7 1 ≡ rd w % 2 = omega arith in
    let upper : bits w 25 6 ≡ funct7 w % 2 ^ 6 = omega arith in
    let lower : bits w 8 4 ≡ rd w / 2 = omega arith in
    omega arith

b_parts : (n : ℕ) → n < 2 ^ 13 → n % 2 ≡ 0 → b_number (bits n 11 1 + 2 * bits n 1 4) (bits n 5 6 + 2 ^ 6 * bits n 12 1) ≡ n
b_parts n below even = omega arith

b_code : (d f7 : ℕ) → d < 2 ^ 5 → f7 < 2 ^ 7 → bits (b_number d f7) 5 6 + 2 ^ 6 * bits (b_number d f7) 12 1 ≡ f7
b_code d f7 p q = omega arith

b_place : (d f7 : ℕ) → d < 2 ^ 5 → f7 < 2 ^ 7 → bits (b_number d f7) 11 1 + 2 * bits (b_number d f7) 1 4 ≡ d
b_place d f7 p q = omega arith

pub b_fields : (o f3 a b : ℕ) (z : ℤ) → o < 2 ^ 7 → f3 < 2 ^ 3 → FitsB a b z → IsBWord (b_word o f3 a b z) o f3 a b z
b_fields o f3 a b z code code3 fits =
    let n = field 13 z in
    let w = b_word o f3 a b z in
    let d = bits n 11 1 + 2 * bits n 1 4 in
    let f7 = bits n 5 6 + 2 ^ 6 * bits n 12 1 in
    let small : n < 2 ^ 13 = field_at-lt (2 ^ 12) z (omega arith) in
    let even : n % 2 ≡ 0 = even_field (2 ^ 12) z fits.2.divided in
    let r = r_fields o f3 f7 d a b code code3 (omega arith) (omega arith, fits.0, fits.1) in
    let whole = b_bits w ∙ ap (b_number (rd w)) r.code7 ∙ ap (λ x. b_number x f7) r.destination ∙ b_parts n small even in
    record {
      code = r.code;
      code3 = r.code3;
      first = r.first;
      second = r.second;
      immediate = ap (signed 13) whole ∙ signed-field (2 ^ 12) z fits.2.low fits.2.high;
    }

pub b_again : (w : ℕ) → w < 2 ^ 32 → b_word (opcode w) (funct3 w) (rs1 w) (rs2 w) (b_immediate w) ≡ w
b_again w below =
    let n = b_number (rd w) (funct7 w) in
    let small : n < 2 ^ 13 = omega arith in
    let whole : field 13 (b_immediate w) ≡ n = ap (λ m. field 13 (signed 13 m)) (b_bits w) ∙ field-signed (2 ^ 12) n small in
    ap (λ m. r_word (opcode w) (funct3 w) (bits m 5 6 + 2 ^ 6 * bits m 12 1) (bits m 11 1 + 2 * bits m 1 4) (rs1 w) (rs2 w)) whole
    ∙ ap (λ x. r_word (opcode w) (funct3 w) x (bits n 11 1 + 2 * bits n 1 4) (rs1 w) (rs2 w)) (b_code (rd w) (funct7 w) (omega arith) (omega arith))
    ∙ ap (λ x. r_word (opcode w) (funct3 w) (funct7 w) x (rs1 w) (rs2 w)) (b_place (rd w) (funct7 w) (omega arith) (omega arith))
    ∙ r_again w below

-- the fields of the U and J formats
pub record IsUWord (w o d : ℕ) (z : ℤ) : Type 0 where
  pub code : opcode w ≡ o
  pub destination : rd w ≡ d
  pub immediate : u_immediate w ≡ z

pub record IsJWord (w o d : ℕ) (z : ℤ) : Type 0 where
  pub code : opcode w ≡ o
  pub destination : rd w ≡ d
  pub immediate : j_immediate w ≡ z

-- an opcode, rd and a number with twelve zeros have no bit in common
pub or-u_word : (o d n : ℕ) → o < 2 ^ 7 → d < 32 → n % 2 ^ 12 ≡ 0 → bit_or (bit_or o (d * 128 % 2 ^ 32)) n ≡ o + 2 ^ 7 * d + n
or-u_word o d n code destination zeros =
    let shifted : d * 128 % 2 ^ 32 ≡ d * 2 ^ 7 = omega arith in
    let low : bit_or o (d * 128 % 2 ^ 32) ≡ d * 2 ^ 7 + o = ap (bit_or o) shifted ∙ or_shifted_r d 7 o code in
    let high : n ≡ n / 2 ^ 12 * 2 ^ 12 = omega arith in
    ap (λ x. bit_or x n) low
    ∙ ap (bit_or (d * 2 ^ 7 + o)) high
    ∙ or_shifted_r (n / 2 ^ 12) 12 (d * 2 ^ 7 + o) (omega arith)
    ∙ omega arith

pub u_fields : (o d : ℕ) (z : ℤ) → o < 2 ^ 7 → FitsU d z → IsUWord (u_word o d z) o d z
u_fields o d z code fits =
    let small = field_at-lt (2 ^ 31) z (omega arith) in
    let low : field 32 z % 2 ^ 12 ≡ 0 = twelve_zeros z fits.1.divided in
    let high : bits (u_word o d z) 12 20 * 2 ^ 12 ≡ field 32 z = omega arith in
    record {
      code = omega arith;
      destination = omega arith;
      immediate = ap (signed 32) high ∙ signed-field (2 ^ 31) z fits.1.low fits.1.high;
    }

pub u_again : (w : ℕ) → w < 2 ^ 32 → u_word (opcode w) (rd w) (u_immediate w) ≡ w
u_again w below =
    ap (λ n. opcode w + 2 ^ 7 * rd w + n) (field-signed (2 ^ 31) (bits w 12 20 * 2 ^ 12) (omega arith))
    ∙ omega arith

-- the upper twenty bits of a word, and the J immediate that they hold
abbrev j_filled : ℕ → ℕ
j_filled n = bits n 12 8 + 2 ^ 8 * bits n 11 1 + 2 ^ 9 * bits n 1 10 + 2 ^ 19 * bits n 20 1

abbrev j_number : ℕ → ℕ
j_number u = bits u 19 1 * 2 ^ 20 + bits u 0 8 * 2 ^ 12 + bits u 8 1 * 2 ^ 11 + bits u 9 10 * 2

j_bits : (w : ℕ) → bits w 31 1 * 2 ^ 20 + bits w 12 8 * 2 ^ 12 + bits w 20 1 * 2 ^ 11 + bits w 21 10 * 2 ≡ j_number (bits w 12 20)
j_bits w =
    let top : bits w 31 1 ≡ bits (bits w 12 20) 19 1 = omega arith in
    let high : bits w 12 8 ≡ bits (bits w 12 20) 0 8 = omega arith in
    let eleven : bits w 20 1 ≡ bits (bits w 12 20) 8 1 = omega arith in
    let low : bits w 21 10 ≡ bits (bits w 12 20) 9 10 = omega arith in
    omega arith

j_number-filled : (n : ℕ) → n < 2 ^ 21 → n % 2 ≡ 0 → j_number (j_filled n) ≡ n
j_number-filled n below even =
    let top : bits (j_filled n) 19 1 ≡ bits n 20 1 = omega arith in
    let high : bits (j_filled n) 0 8 ≡ bits n 12 8 = omega arith in
    let eleven : bits (j_filled n) 8 1 ≡ bits n 11 1 = omega arith in
    let low : bits (j_filled n) 9 10 ≡ bits n 1 10 = omega arith in
    omega arith

j_filled-number : (u : ℕ) → u < 2 ^ 20 → j_filled (j_number u) ≡ u
j_filled-number u below =
    let top : bits (j_number u) 20 1 ≡ bits u 19 1 = omega arith in
    let high : bits (j_number u) 12 8 ≡ bits u 0 8 = omega arith in
    let eleven : bits (j_number u) 11 1 ≡ bits u 8 1 = omega arith in
    let low : bits (j_number u) 1 10 ≡ bits u 9 10 = omega arith in
    omega arith

upper_code : (o d u : ℕ) → o < 2 ^ 7 → d < 32 → u < 2 ^ 20 → opcode (o + 2 ^ 7 * d + 2 ^ 12 * u) ≡ o
upper_code o d u p q r = omega arith

upper_place : (o d u : ℕ) → o < 2 ^ 7 → d < 32 → u < 2 ^ 20 → rd (o + 2 ^ 7 * d + 2 ^ 12 * u) ≡ d
upper_place o d u p q r = omega arith

upper_bits : (o d u : ℕ) → o < 2 ^ 7 → d < 32 → u < 2 ^ 20 → bits (o + 2 ^ 7 * d + 2 ^ 12 * u) 12 20 ≡ u
upper_bits o d u p q r = omega arith

j_regroup : (o d n : ℕ)
    → o + 2 ^ 7 * d + 2 ^ 12 * bits n 12 8 + 2 ^ 20 * bits n 11 1 + 2 ^ 21 * bits n 1 10 + 2 ^ 31 * bits n 20 1 ≡ o + 2 ^ 7 * d + 2 ^ 12 * j_filled n
j_regroup o d n = omega arith

pub j_fields : (o d : ℕ) (z : ℤ) → o < 2 ^ 7 → FitsJ d z → IsJWord (j_word o d z) o d z
j_fields o d z code fits =
    let n = field 21 z in
    let w = j_word o d z in
    let small : n < 2 ^ 21 = field_at-lt (2 ^ 20) z (omega arith) in
    let even : n % 2 ≡ 0 = even_field (2 ^ 20) z fits.1.divided in
    let filled : w ≡ o + 2 ^ 7 * d + 2 ^ 12 * j_filled n = omega arith in
    let below : j_filled n < 2 ^ 20 = omega arith in
    let upper : bits w 12 20 ≡ j_filled n = ap (λ x. bits x 12 20) filled ∙ upper_bits o d (j_filled n) code fits.0 below in
    let whole = j_bits w ∙ ap j_number upper ∙ j_number-filled n small even in
    record {
      code = ap opcode filled ∙ upper_code o d (j_filled n) code fits.0 below;
      destination = ap rd filled ∙ upper_place o d (j_filled n) code fits.0 below;
      immediate = ap (signed 21) whole ∙ signed-field (2 ^ 20) z fits.1.low fits.1.high;
    }

pub j_again : (w : ℕ) → w < 2 ^ 32 → j_word (opcode w) (rd w) (j_immediate w) ≡ w
j_again w below =
    let n = j_number (bits w 12 20) in
    let small : n < 2 ^ 21 = omega arith in
    let whole : field 21 (j_immediate w) ≡ n = ap (λ m. field 21 (signed 21 m)) (j_bits w) ∙ field-signed (2 ^ 20) n small in
    ap (λ m. opcode w + 2 ^ 7 * rd w + 2 ^ 12 * bits m 12 8 + 2 ^ 20 * bits m 11 1 + 2 ^ 21 * bits m 1 10 + 2 ^ 31 * bits m 20 1) whole
    ∙ j_regroup (opcode w) (rd w) n
    ∙ ap (λ u. opcode w + 2 ^ 7 * rd w + 2 ^ 12 * u) (j_filled-number (bits w 12 20) (omega arith))
    ∙ omega arith
