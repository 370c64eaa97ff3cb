-- The places at which threads wait.
use Rattle.std.specs.Prelude.{ℕ, ◌+◌, Option, None, Some}
use Rattle.tx_types.specs.Limits.{slot_limit, module_limit}
use Rattle.suspend_lists.specs.declared.wait.On.{On}
use Rattle.suspend_lists.specs.declared.wait.On.TheVariants.{Object, Callbacks, Sleep}

-- the objects, and the callback queues of the modules
abbrev pub place_count : ℕ
place_count = slot_limit + module_limit

-- the number of a place; a sleeper has none
abbrev pub place : On → Option ℕ
place (Object o) = Some o
place (Callbacks m) = Some (slot_limit + m)
place Sleep = None
