use Rattle.std.proofs.Common.{◌≡◌, take}
use Rattle.tx_types.proofs.name.Name.from_bytes.Given as goal

abbrev pub invariant-loop-b : goal.invariant-loop-b
invariant-loop-b l = l.name ≡ take l.b-index l.bytes
