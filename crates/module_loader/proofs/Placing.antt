-- A placement as far as the loop has come.
use Rattle.std.proofs.Common.{ℕ, ◌+◌, List, ◌++◌, length, Result, Ok, Err}
use Rattle.module_loader.specs.declared.placement.Placed.{Placed}

-- what is due, where some modules have places already
abbrev pub after : List Placed → Result (List Placed) ℕ → Result (List Placed) ℕ
after places (Ok others) = Ok (places ++ others)
after places (Err i) = Err (length places + i)
