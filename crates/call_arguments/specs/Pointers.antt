-- Pointers that a module gives to a service: when they are refused, and with which status.
use Rattle.std.specs.Prelude.{ℕ, ◌%◌, ◌==◌, ◌||◌, not, Option, None, Some, if◌then◌else◌}
use Rattle.tx_types.specs.Code.{ptr_error, invalid_memory}
use Rattle.region_guard.specs.Memory.{Memory, may}
use Rattle.region_guard.specs.declared.region.Access.{Access}

-- no pointer is 0, and 4 divides each; then module m must have this access to the n bytes from it
abbrev pub pointer_refusal : Memory → ℕ → Access → ℕ → ℕ → Option ℕ
pointer_refusal g m access x n =
    if (x == 0) || not (x % 4 == 0) then Some ptr_error
    else (if may g m access x n then None else Some invalid_memory)
