-- References to kernel objects: a slot and its generation in one word.
use Rattle.std.specs.Prelude.{ℕ, ◌+◌, ◌*◌, ◌/◌, ◌%◌}
use Rattle.tx_types.specs.Limits.{slot_limit}

abbrev pub reference : ℕ → ℕ → ℕ
reference slot generation = generation * slot_limit + slot

abbrev pub slot_of : ℕ → ℕ
slot_of r = r % slot_limit

abbrev pub generation_of : ℕ → ℕ
generation_of r = r / slot_limit
