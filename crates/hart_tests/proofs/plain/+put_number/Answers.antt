use Rattle.std.proofs.Common.{◌≡◌, ℕ, suc, ◌+◌, ◌-◌, ◌/◌, ◌%◌, ◌^◌, ◌<◌, ◌≤◌, List, length, slice_index, slice_set, ap, ◌∙◌, get_or-set_same, get_or-set_other}
use Rattle.std.proofs.Common.{arith}
use Rattle.std.proofs.Math.Nat.{div-div-eq-div-mul, pow-succ'}
use Rattle.std.proofs.lemmas.Bool.Decides.{nat_tests}
use Rattle.machine_words.specs.Number.{after_store}
use Rattle.hart_tests.proofs.plain.+put_number.Goals as goal

-- a byte above the lowest is a byte of what is left
higher : (value at k : ℕ) → at < k → value / 256 / 256 ^ (k - (at + 1)) % 256 ≡ value / 256 ^ (k - at) % 256
higher value at k above =
    let m : ℕ = k - (at + 1) in
    let next : k - at ≡ suc m = omega arith in
    rw (next, pow-succ') (ap (λ (q : ℕ). q % 256) (div-div-eq-div-mul value 256 (256 ^ m)))

-- the lowest byte was put, and the rest is put after it
lowest_then_rest : (bytes : List ℕ) (at n value k : ℕ) → 0 < n → at + n ≤ length bytes
    → after_store (slice_index (slice_set bytes at (value % 256))) (at + 1) (n - 1) (value / 256) k ≡ after_store (slice_index bytes) at n value k
lowest_then_rest bytes at n value k some inside = grind (arith, nat_tests, get_or-set_same, get_or-set_other, higher)

pub returns-then-n-gt0 : goal.returns-then-n-gt0
returns-then-n-gt0 t c = λ k. c.put_number.ensures k ∙ lowest_then_rest _ _ _ _ k (omega arith) (omega arith)
