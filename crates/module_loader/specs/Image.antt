-- An image in RAM.
use Rattle.std.specs.Prelude.{ℕ, ◌+◌, ◌-◌, ◌≤◌, List, length}
use Rattle.flat_ram.specs.Ram.{over}

-- where RAM begins
abbrev pub ram_base : ℕ
ram_base = 0x80000000

-- RAM with an image from an address on
abbrev pub loaded : List ℕ → List ℕ → ℕ → List ℕ
loaded ram image a = over ram (a - ram_base) image

-- the given number of addresses from an address on are in RAM
pub record IsInRam (ram : List ℕ) (a n : ℕ) : Type 0 where
  pub from_base : ram_base ≤ a
  pub to_end : a + n ≤ ram_base + length ram
