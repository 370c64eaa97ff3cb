-- The state of a hart (RISC-V Unprivileged ISA Manual, "Programmers' Model for Base Integer ISA").
use Rattle.std.specs.Prelude.{ℕ, ◌+◌, ◌%◌, ◌^◌, ◌==◌, List, slice_index, slice_set, if◌then◌else◌}

-- the program counter, and x0 to x31
pub record HartState : Type 0 where
  pub pc : ℕ
  pub x : List ℕ

abbrev pub register : HartState → ℕ → ℕ
register h r = slice_index h.x r

-- a write to x0 is dropped
abbrev pub with_register : HartState → ℕ → ℕ → HartState
with_register h r value = record h { x = (if r == 0 then h.x else slice_set h.x r value) }

-- the hart at the next instruction
abbrev pub advanced : HartState → HartState
advanced h = record h { pc = (h.pc + 4) % 2 ^ 32 }
