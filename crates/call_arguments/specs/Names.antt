-- Names that a module gives to a service.
use Rattle.std.specs.Prelude.{ℕ, zero, suc, ◌+◌, ◌==◌, List, [], ◌∷◌, Result, Ok, Err}
use Rattle.std.specs.Prelude.{if◌then◌else◌}
use Rattle.tx_types.specs.Code.{ptr_error, invalid_memory}
use Rattle.tx_types.specs.Limits.{name_limit}
use Rattle.region_guard.specs.Memory.{Memory, byte, may}
use Rattle.region_guard.specs.declared.region.Access.TheVariants.{Load}

-- a byte before a text, where there is one
abbrev pub before : ℕ → Result (List ℕ) ℕ → Result (List ℕ) ℕ
before b (Ok rest) = Ok (b ∷ rest)
before b (Err code) = Err code

-- the bytes from an address on up to a zero, which is among the next n; module m must have the
-- right to load each of them
unfoldable pub text_at : Memory → ℕ → ℕ → ℕ → Result (List ℕ) ℕ
text_at g m a zero = Err ptr_error
text_at g m a (suc n) =
    if may g m Load a 1
    then (if byte g a == 0 then Ok [] else before (byte g a) (text_at g m (a + 1) n))
    else Err invalid_memory

-- no name, or one within its limit and a zero after it
abbrev pub name_at : Memory → ℕ → ℕ → Result (List ℕ) ℕ
name_at g m x = if x == 0 then Ok [] else text_at g m x (name_limit + 1)
