-- The numbers of timeouts and timers.
use Rattle.std.specs.Prelude.{ℕ, ◌+◌}
use Rattle.tx_types.specs.Limits.{slot_limit}
use Rattle.soft_timers.specs.declared.id.Whose.{Whose}
use Rattle.soft_timers.specs.declared.id.Whose.TheVariants.{Timeout, Timer}

-- first the threads, then the objects
abbrev pub id_of : Whose → ℕ
id_of (Timeout t) = t
id_of (Timer o) = slot_limit + o
