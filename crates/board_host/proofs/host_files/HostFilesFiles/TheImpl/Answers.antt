-- What the trait says of a read, by the count after it; nothing is told of what is held.
use Rattle.std.proofs.Common.{◌≡◌, ℕ, Result, Ok, Err, IfOk, IsErrOf, ap, ◌∙◌, arith, refl}
use Rattle.board_io.specs.Faults.{Rose}
use Rattle.board_io.specs.declared.files.ReadErr.{ReadErr}
use Rattle.board_io.specs.declared.files.ReadErr.TheVariants.{Failed, Missing}
use Rattle.board_host.specs.Reads.{count_read}
use Rattle.board_host.proofs.host_files.HostFilesFiles.TheImpl.Goals as goal

nothing_told : {T E : Type 0} (r : Result T E) → IfOk r (λ _. Unit {0})
nothing_told (Ok v) = tt
nothing_told (Err e) = tt

missing_counted : {T : Type 0} (before now : ℕ) (r : Result T ReadErr) → now ≡ count_read before r → IsErrOf r Missing → Rose before now
missing_counted before now r count missing = omega (arith, count ∙ ap (λ q. count_read before q) missing)

fault_counted : {T : Type 0} (before now : ℕ) (r : Result T ReadErr) → now ≡ count_read before r → IsErrOf r Failed → Rose before now
fault_counted before now r count failed = omega (arith, count ∙ ap (λ q. count_read before q) failed)

pub read-tells : goal.read-tells
read-tells g c = record {
  held = refl;
  counted = c.ensures.counted;
  ok = nothing_told c.result;
  failed = fault_counted _ _ c.result c.ensures.count;
  missing = missing_counted _ _ c.result c.ensures.count;
}
