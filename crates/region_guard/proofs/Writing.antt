-- A stored number is read back at its address.
use Rattle.std.proofs.Common.{◌≡◌, ℕ, ◌+◌, ◌-◌, ◌<◌, ◌≤◌, nat_le, slice_index, ap, ◌∙◌, arith}
use Rattle.std.proofs.lemmas.Bool.{cond-true, le-leb}
use Rattle.flat_ram.specs.Laws.{ReadsBack, SameBytesSameNumber}
use Rattle.flat_ram.specs.Ram.{stored}
use Rattle.region_guard.specs.Laws.{StoreIsReadBack}
use Rattle.region_guard.specs.Memory.{Memory, byte, with_number, ram_base}

-- the byte at an address of RAM
byte_in_ram : (g : Memory) (x : ℕ) → ram_base ≤ x → byte g x ≡ slice_index g.bytes (x - ram_base)
byte_in_ram g x low = cond-true (nat_le ram_base x) (slice_index g.bytes (x - ram_base)) 0 (le-leb ram_base x low)

pub store_is_read_back : SameBytesSameNumber → ReadsBack → StoreIsReadBack
store_is_read_back same_number reads_back g a n v range =
    let base = range.from_base in
    let end = range.to_end in
    let at = a - ram_base in
    let after = stored g.bytes at n v in
    let moved = λ (k : ℕ) (below : k < n). let place : a + k - ram_base ≡ at + k = omega arith in byte_in_ram (with_number g a n v) (a + k) (omega arith)
    ∙ ap (slice_index after) place in
    same_number (byte (with_number g a n v)) (slice_index after) a at n moved ∙ reads_back g.bytes at n v (omega arith)
