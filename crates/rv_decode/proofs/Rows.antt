-- Each row both ways: a well-formed instruction's word decodes to it, and a word that a row takes is the word
-- of the row's instruction.
use Rattle.std.proofs.Common.{ℕ, ℤ, ◌≡◌, ◌<◌, ◌^◌, true, Option, Some, refl, arith, ap, sym, ◌∙◌, subst}
use Rattle.std.specs.Prelude.{◌==◌, ◌&&◌, IfSome, None}
use Rattle.std.specs.List.{slice_get, AllByRecursion}
use Rattle.std.proofs.lemmas.Bool.Decides.{nat_tests}
use Rattle.machine_words.specs.Bits.{bits}
use Rattle.rv_decode.specs.Fields.{opcode, rd, funct3, rs1, rs2, funct7, i_immediate, s_immediate, b_immediate, u_immediate, j_immediate}
use Rattle.rv_decode.specs.Decode.{Row, r_type, i_type, s_type, b_type, u_type, j_type, exactly, takes, table, decoded}
use Rattle.rv_decode.specs.Encode.{encoded, r_word, i_word, s_word, b_word, u_word, j_word}
use Rattle.rv_decode.specs.WellFormed.{IsWellFormed, FitsR, FitsI, FitsS, FitsB, FitsU, FitsJ}
use Rattle.rv_decode.specs.declared.Instr.{Instr}
use Rattle.rv_decode.specs.declared.Instr.TheVariants.{Lui, Auipc, Jal, Jalr, Beq, Bne, Blt, Bge, Bltu, Bgeu, Lb, Lh, Lw, Lbu, Lhu, Sb, Sh, Sw, Addi, Slti}
use Rattle.rv_decode.specs.declared.Instr.TheVariants.{Sltiu, Xori, Ori, Andi, Slli, Srli, Srai, Add, Sub, Sll, Slt, Sltu, Xor, Srl, Sra, Or, And, Fence, Ecall}
use Rattle.rv_decode.specs.declared.Instr.TheVariants.{Ebreak, Mul, Mulh, Mulhsu, Mulhu, Div, Divu, Rem, Remu}
use Rattle.rv_decode.proofs.Formats.{r_fields, r_again, i_fields, i_again, s_fields, s_again, b_fields, b_again, u_fields, u_again, j_fields, j_again}
use Rattle.rv_decode.proofs.Immediates.{i_formed, s_formed, b_formed, u_formed, j_formed}
use Rattle.rv_decode.proofs.Table.{row_fits, row_decodes, decoded_row}

test1 : {a b : ℕ} → a ≡ b → ((a == b) && true) ≡ true
test1 e = grind (arith, nat_tests)

test2 : {a b c d : ℕ} → a ≡ b → c ≡ d → ((a == b) && (c == d)) ≡ true
test2 e f = grind (arith, nat_tests)

test3 : {a b c d m n : ℕ} → a ≡ b → c ≡ d → m ≡ n → ((a == b) && ((c == d) && (m == n))) ≡ true
test3 e f g = grind (arith, nat_tests)

-- a well-formed instruction's word decodes to it
u_decodes : (k o : ℕ) (make : ℕ → ℤ → Instr) (d : ℕ) (z : ℤ) → slice_get table k ≡ Some (u_type o make) → FitsU d z → decoded (u_word o d z) ≡ Some (make d z)
u_decodes k o make d z row p =
    let codes = row_fits k (u_type o make) row in
    let fields = u_fields o d z (grind (arith, nat_tests)) p in
    row_decodes k (u_type o make) (u_word o d z) row (test1 fields.code)
    ∙ ap Some (ap (λ x. make x (u_immediate (u_word o d z))) fields.destination ∙ ap (make d) fields.immediate)

j_decodes : (k o : ℕ) (make : ℕ → ℤ → Instr) (d : ℕ) (z : ℤ) → slice_get table k ≡ Some (j_type o make) → FitsJ d z → decoded (j_word o d z) ≡ Some (make d z)
j_decodes k o make d z row p =
    let codes = row_fits k (j_type o make) row in
    let fields = j_fields o d z (grind (arith, nat_tests)) p in
    row_decodes k (j_type o make) (j_word o d z) row (test1 fields.code)
    ∙ ap Some (ap (λ x. make x (j_immediate (j_word o d z))) fields.destination ∙ ap (make d) fields.immediate)

i_decodes : (k o f3 : ℕ) (make : ℕ → ℕ → ℤ → Instr) (d a : ℕ) (z : ℤ) → slice_get table k ≡ Some (i_type o f3 make) → FitsI d a z
    → decoded (i_word o f3 d a z) ≡ Some (make d a z)
i_decodes k o f3 make d a z row p =
    let codes = row_fits k (i_type o f3 make) row in
    let fields = i_fields o f3 d a z (grind (arith, nat_tests)) (grind (arith, nat_tests)) p in
    let w = i_word o f3 d a z in
    row_decodes k (i_type o f3 make) w row (test2 fields.code fields.code3)
    ∙ ap Some (ap (λ x. make x (rs1 w) (i_immediate w)) fields.destination ∙ ap (λ y. make d y (i_immediate w)) fields.source ∙ ap (make d a) fields.immediate)

s_decodes : (k o f3 : ℕ) (make : ℕ → ℕ → ℤ → Instr) (a b : ℕ) (z : ℤ) → slice_get table k ≡ Some (s_type o f3 make) → FitsS a b z
    → decoded (s_word o f3 a b z) ≡ Some (make a b z)
s_decodes k o f3 make a b z row p =
    let codes = row_fits k (s_type o f3 make) row in
    let fields = s_fields o f3 a b z (grind (arith, nat_tests)) (grind (arith, nat_tests)) p in
    let w = s_word o f3 a b z in
    row_decodes k (s_type o f3 make) w row (test2 fields.code fields.code3)
    ∙ ap Some (ap (λ x. make x (rs2 w) (s_immediate w)) fields.first ∙ ap (λ y. make a y (s_immediate w)) fields.second ∙ ap (make a b) fields.immediate)

b_decodes : (k o f3 : ℕ) (make : ℕ → ℕ → ℤ → Instr) (a b : ℕ) (z : ℤ) → slice_get table k ≡ Some (b_type o f3 make) → FitsB a b z
    → decoded (b_word o f3 a b z) ≡ Some (make a b z)
b_decodes k o f3 make a b z row p =
    let codes = row_fits k (b_type o f3 make) row in
    let fields = b_fields o f3 a b z (grind (arith, nat_tests)) (grind (arith, nat_tests)) p in
    let w = b_word o f3 a b z in
    row_decodes k (b_type o f3 make) w row (test2 fields.code fields.code3)
    ∙ ap Some (ap (λ x. make x (rs2 w) (b_immediate w)) fields.first ∙ ap (λ y. make a y (b_immediate w)) fields.second ∙ ap (make a b) fields.immediate)

r_decodes : (k o f3 f7 : ℕ) (make : ℕ → ℕ → ℕ → Instr) (d a b : ℕ) → slice_get table k ≡ Some (r_type o f3 f7 make) → FitsR d a b
    → decoded (r_word o f3 f7 d a b) ≡ Some (make d a b)
r_decodes k o f3 f7 make d a b row p =
    let codes = row_fits k (r_type o f3 f7 make) row in
    let fields = r_fields o f3 f7 d a b (grind (arith, nat_tests)) (grind (arith, nat_tests)) (grind (arith, nat_tests)) p in
    let w = r_word o f3 f7 d a b in
    row_decodes k (r_type o f3 f7 make) w row (test3 fields.code fields.code3 fields.code7)
    ∙ ap Some (ap (λ x. make x (rs1 w) (rs2 w)) fields.destination ∙ ap (λ y. make d y (rs2 w)) fields.first ∙ ap (make d a) fields.second)

pub decoded-encoded : (i : Instr) → IsWellFormed i → decoded (encoded i) ≡ Some i
decoded-encoded (Lui d z) p = u_decodes 0 0x37 Lui d z refl p
decoded-encoded (Auipc d z) p = u_decodes 1 0x17 Auipc d z refl p
decoded-encoded (Jal d z) p = j_decodes 2 0x6F Jal d z refl p
decoded-encoded (Jalr d a z) p = i_decodes 3 0x67 0 Jalr d a z refl p
decoded-encoded (Beq a b z) p = b_decodes 4 0x63 0 Beq a b z refl p
decoded-encoded (Bne a b z) p = b_decodes 5 0x63 1 Bne a b z refl p
decoded-encoded (Blt a b z) p = b_decodes 6 0x63 4 Blt a b z refl p
decoded-encoded (Bge a b z) p = b_decodes 7 0x63 5 Bge a b z refl p
decoded-encoded (Bltu a b z) p = b_decodes 8 0x63 6 Bltu a b z refl p
decoded-encoded (Bgeu a b z) p = b_decodes 9 0x63 7 Bgeu a b z refl p
decoded-encoded (Lb d a z) p = i_decodes 10 0x03 0 Lb d a z refl p
decoded-encoded (Lh d a z) p = i_decodes 11 0x03 1 Lh d a z refl p
decoded-encoded (Lw d a z) p = i_decodes 12 0x03 2 Lw d a z refl p
decoded-encoded (Lbu d a z) p = i_decodes 13 0x03 4 Lbu d a z refl p
decoded-encoded (Lhu d a z) p = i_decodes 14 0x03 5 Lhu d a z refl p
decoded-encoded (Sb a b z) p = s_decodes 15 0x23 0 Sb a b z refl p
decoded-encoded (Sh a b z) p = s_decodes 16 0x23 1 Sh a b z refl p
decoded-encoded (Sw a b z) p = s_decodes 17 0x23 2 Sw a b z refl p
decoded-encoded (Addi d a z) p = i_decodes 18 0x13 0 Addi d a z refl p
decoded-encoded (Slti d a z) p = i_decodes 19 0x13 2 Slti d a z refl p
decoded-encoded (Sltiu d a z) p = i_decodes 20 0x13 3 Sltiu d a z refl p
decoded-encoded (Xori d a z) p = i_decodes 21 0x13 4 Xori d a z refl p
decoded-encoded (Ori d a z) p = i_decodes 22 0x13 6 Ori d a z refl p
decoded-encoded (Andi d a z) p = i_decodes 23 0x13 7 Andi d a z refl p
decoded-encoded (Slli d a n) p = r_decodes 24 0x13 1 0x00 Slli d a n refl p
decoded-encoded (Srli d a n) p = r_decodes 25 0x13 5 0x00 Srli d a n refl p
decoded-encoded (Srai d a n) p = r_decodes 26 0x13 5 0x20 Srai d a n refl p
decoded-encoded (Add d a b) p = r_decodes 27 0x33 0 0x00 Add d a b refl p
decoded-encoded (Sub d a b) p = r_decodes 28 0x33 0 0x20 Sub d a b refl p
decoded-encoded (Sll d a b) p = r_decodes 29 0x33 1 0x00 Sll d a b refl p
decoded-encoded (Slt d a b) p = r_decodes 30 0x33 2 0x00 Slt d a b refl p
decoded-encoded (Sltu d a b) p = r_decodes 31 0x33 3 0x00 Sltu d a b refl p
decoded-encoded (Xor d a b) p = r_decodes 32 0x33 4 0x00 Xor d a b refl p
decoded-encoded (Srl d a b) p = r_decodes 33 0x33 5 0x00 Srl d a b refl p
decoded-encoded (Sra d a b) p = r_decodes 34 0x33 5 0x20 Sra d a b refl p
decoded-encoded (Or d a b) p = r_decodes 35 0x33 6 0x00 Or d a b refl p
decoded-encoded (And d a b) p = r_decodes 36 0x33 7 0x00 And d a b refl p
decoded-encoded (Fence d a z) p = i_decodes 37 0x0F 0 Fence d a z refl p
decoded-encoded Ecall p = row_decodes 38 (exactly 0x73 0x00000073 Ecall) 0x00000073 refl refl
decoded-encoded Ebreak p = row_decodes 39 (exactly 0x73 0x00100073 Ebreak) 0x00100073 refl refl
decoded-encoded (Mul d a b) p = r_decodes 40 0x33 0 0x01 Mul d a b refl p
decoded-encoded (Mulh d a b) p = r_decodes 41 0x33 1 0x01 Mulh d a b refl p
decoded-encoded (Mulhsu d a b) p = r_decodes 42 0x33 2 0x01 Mulhsu d a b refl p
decoded-encoded (Mulhu d a b) p = r_decodes 43 0x33 3 0x01 Mulhu d a b refl p
decoded-encoded (Div d a b) p = r_decodes 44 0x33 4 0x01 Div d a b refl p
decoded-encoded (Divu d a b) p = r_decodes 45 0x33 5 0x01 Divu d a b refl p
decoded-encoded (Rem d a b) p = r_decodes 46 0x33 6 0x01 Rem d a b refl p
decoded-encoded (Remu d a b) p = r_decodes 47 0x33 7 0x01 Remu d a b refl p

register : (w low : ℕ) → bits w low 5 < 32
register w low = omega arith

-- a row's instruction is well formed, and a word that the row takes is its word
u_row : (o w : ℕ) → w < 2 ^ 32 → ((opcode w == o) && true) ≡ true → FitsU (rd w) (u_immediate w) × (u_word o (rd w) (u_immediate w) ≡ w)
u_row o w below t =
    let code : opcode w ≡ o = grind (arith, nat_tests) in
    ((register w 7, u_formed w), ap (λ x. u_word x (rd w) (u_immediate w)) (sym code) ∙ u_again w below)

j_row : (o w : ℕ) → w < 2 ^ 32 → ((opcode w == o) && true) ≡ true → FitsJ (rd w) (j_immediate w) × (j_word o (rd w) (j_immediate w) ≡ w)
j_row o w below t =
    let code : opcode w ≡ o = grind (arith, nat_tests) in
    ((register w 7, j_formed w), ap (λ x. j_word x (rd w) (j_immediate w)) (sym code) ∙ j_again w below)

i_row : (o f3 w : ℕ) → w < 2 ^ 32 → ((opcode w == o) && (funct3 w == f3)) ≡ true → FitsI (rd w) (rs1 w) (i_immediate w)
    × (i_word o f3 (rd w) (rs1 w) (i_immediate w) ≡ w)
i_row o f3 w below t =
    let code : opcode w ≡ o = grind (arith, nat_tests) in
    let code3 : funct3 w ≡ f3 = grind (arith, nat_tests) in (
      (register w 7, register w 15, i_formed w),
      ap (λ x. i_word x f3 (rd w) (rs1 w) (i_immediate w)) (sym code)
          ∙ ap (λ x. i_word (opcode w) x (rd w) (rs1 w) (i_immediate w)) (sym code3)
          ∙ i_again w below,
    )

s_row : (o f3 w : ℕ) → w < 2 ^ 32 → ((opcode w == o) && (funct3 w == f3)) ≡ true → FitsS (rs1 w) (rs2 w) (s_immediate w)
    × (s_word o f3 (rs1 w) (rs2 w) (s_immediate w) ≡ w)
s_row o f3 w below t =
    let code : opcode w ≡ o = grind (arith, nat_tests) in
    let code3 : funct3 w ≡ f3 = grind (arith, nat_tests) in (
      (register w 15, register w 20, s_formed w),
      ap (λ x. s_word x f3 (rs1 w) (rs2 w) (s_immediate w)) (sym code)
          ∙ ap (λ x. s_word (opcode w) x (rs1 w) (rs2 w) (s_immediate w)) (sym code3)
          ∙ s_again w below,
    )

b_row : (o f3 w : ℕ) → w < 2 ^ 32 → ((opcode w == o) && (funct3 w == f3)) ≡ true → FitsB (rs1 w) (rs2 w) (b_immediate w)
    × (b_word o f3 (rs1 w) (rs2 w) (b_immediate w) ≡ w)
b_row o f3 w below t =
    let code : opcode w ≡ o = grind (arith, nat_tests) in
    let code3 : funct3 w ≡ f3 = grind (arith, nat_tests) in (
      (register w 15, register w 20, b_formed w),
      ap (λ x. b_word x f3 (rs1 w) (rs2 w) (b_immediate w)) (sym code)
          ∙ ap (λ x. b_word (opcode w) x (rs1 w) (rs2 w) (b_immediate w)) (sym code3)
          ∙ b_again w below,
    )

r_row : (o f3 f7 w : ℕ) → w < 2 ^ 32 → ((opcode w == o) && ((funct3 w == f3) && (funct7 w == f7))) ≡ true → FitsR (rd w) (rs1 w) (rs2 w)
    × (r_word o f3 f7 (rd w) (rs1 w) (rs2 w) ≡ w)
r_row o f3 f7 w below t =
    let code : opcode w ≡ o = grind (arith, nat_tests) in
    let code3 : funct3 w ≡ f3 = grind (arith, nat_tests) in
    let code7 : funct7 w ≡ f7 = grind (arith, nat_tests) in
    ((register w 7, register w 15, register w 20), rw (sym code, sym code3, sym code7) (r_again w below))

word_row : (o word w : ℕ) → w < 2 ^ 32 → ((opcode w == o) && (w == word)) ≡ true → Unit {0} × (word ≡ w)
word_row o word w below t = (tt, grind (arith, nat_tests))

abbrev IsSound : Row → Type 0
IsSound row = (w : ℕ) → w < 2 ^ 32 → takes row w ≡ true → IsWellFormed (row.instruction w) × (encoded (row.instruction w) ≡ w)

rows : AllByRecursion IsSound table
rows = (
  u_row 0x37,
  (
    u_row 0x17,
    (
      j_row 0x6F,
      (
        i_row 0x67 0,
        (
          b_row 0x63 0,
          (
            b_row 0x63 1,
            (
              b_row 0x63 4,
              (
                b_row 0x63 5,
                (
                  b_row 0x63 6,
                  (
                    b_row 0x63 7,
                    (
                      i_row 0x03 0,
                      (
                        i_row 0x03 1,
                        (
                          i_row 0x03 2,
                          (
                            i_row 0x03 4,
                            (
                              i_row 0x03 5,
                              (
                                s_row 0x23 0,
                                (
                                  s_row 0x23 1,
                                  (
                                    s_row 0x23 2,
                                    (
                                      i_row 0x13 0,
                                      (
                                        i_row 0x13 2,
                                        (
                                          i_row 0x13 3,
                                          (
                                            i_row 0x13 4,
                                            (
                                              i_row 0x13 6,
                                              (
                                                i_row 0x13 7,
                                                (
                                                  r_row 0x13 1 0x00,
                                                  (
                                                    r_row 0x13 5 0x00,
                                                    (
                                                      r_row 0x13 5 0x20,
                                                      (
                                                        r_row 0x33 0 0x00,
                                                        (
                                                          r_row 0x33 0 0x20,
                                                          (
                                                            r_row 0x33 1 0x00,
                                                            (
                                                              r_row 0x33 2 0x00,
                                                              (
                                                                r_row 0x33 3 0x00,
                                                                (
                                                                  r_row 0x33 4 0x00,
                                                                  (
                                                                    r_row 0x33 5 0x00,
                                                                    (
                                                                      r_row 0x33 5 0x20,
                                                                      (
                                                                        r_row 0x33 6 0x00,
                                                                        (
                                                                          r_row 0x33 7 0x00,
                                                                          (
                                                                            i_row 0x0F 0,
                                                                            (
                                                                              word_row 0x73 0x00000073,
                                                                              (
                                                                                word_row 0x73 0x00100073,
                                                                                (
                                                                                  r_row 0x33 0 0x01,
                                                                                  (
                                                                                    r_row 0x33 1 0x01,
                                                                                    (
                                                                                      r_row 0x33 2 0x01,
                                                                                      (
                                                                                        r_row 0x33 3 0x01,
                                                                                        (
                                                                                          r_row 0x33 4 0x01,
                                                                                          (
                                                                                            r_row 0x33 5 0x01,
                                                                                            (
                                                                                              r_row 0x33 6 0x01,
                                                                                              (
                                                                                                r_row 0x33 7 0x01,
                                                                                                tt,
                                                                                              ),
                                                                                            ),
                                                                                          ),
                                                                                        ),
                                                                                      ),
                                                                                    ),
                                                                                  ),
                                                                                ),
                                                                              ),
                                                                            ),
                                                                          ),
                                                                        ),
                                                                      ),
                                                                    ),
                                                                  ),
                                                                ),
                                                              ),
                                                            ),
                                                          ),
                                                        ),
                                                      ),
                                                    ),
                                                  ),
                                                ),
                                              ),
                                            ),
                                          ),
                                        ),
                                      ),
                                    ),
                                  ),
                                ),
                              ),
                            ),
                          ),
                        ),
                      ),
                    ),
                  ),
                ),
              ),
            ),
          ),
        ),
      ),
    ),
  ),
)

-- an instruction that a word decodes to is well formed, and the word is its word
decoded_sound : (i : Instr) (w : ℕ) → w < 2 ^ 32 → decoded w ≡ Some i → IsWellFormed i × (encoded i ≡ w)
decoded_sound i w below e =
    let found = decoded_row IsSound w i rows e in
    let P : Instr → Type 0 = λ x. IsWellFormed x × (encoded x ≡ w) in
    subst P found.3 (found.1 w below found.2)

pub encodes : (i : Instr) (w : ℕ) → IsWellFormed i → w ≡ encoded i → decoded w ≡ Some i
encodes i w p e = ap decoded e ∙ decoded-encoded i p

pub encodes_only : (i : Instr) (v w : ℕ) → v ≡ encoded i → w < 2 ^ 32 → decoded w ≡ Some i → v ≡ w
encodes_only i v w e below d = e ∙ (decoded_sound i w below d).1

pub formed : (r : Option Instr) (w : ℕ) → w < 2 ^ 32 → r ≡ decoded w → IfSome r IsWellFormed
formed None w below e = tt
formed (Some i) w below e = (decoded_sound i w below (sym e)).0
