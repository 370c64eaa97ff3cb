-- What a change leaves: the kernel, memory, and the waits that it ended, which the kernel counts
-- and doesn't keep.
use Rattle.std.specs.Prelude.{List, [], ◌++◌}
use Rattle.tx_types.specs.End.{WaitEnd}
use Rattle.region_guard.specs.Memory.{Memory}
use Rattle.kernel_state.specs.declared.kernel.Kernel.{Kernel}

pub record Change : Type 0 where
  pub kernel : Kernel
  pub memory : Memory
  pub ends : List WaitEnd  -- in order

-- a change that ends no wait
abbrev pub quiet : Kernel → Memory → Change
quiet k g = record { kernel = k; memory = g; ends = [] }

-- one change, and then another of what it leaves
abbrev pub followed : Change → (Kernel → Memory → Change) → Change
followed c next = let now = next c.kernel c.memory in record now { ends = c.ends ++ now.ends }
