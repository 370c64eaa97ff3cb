-- The operations that instructions ask for, each with what it does to a hart and to memory.
use Rattle.std.specs.Prelude.{◌<◌}
use Rattle.machine_words.specs.Number.{IsWidth}
use Rattle.rv_core.specs.Execute.{Effect, Completes, Calls, Faults, writes, jumps, branches}
use Rattle.rv_core.specs.Execute.{loads_signed, loads_unsigned, stores}
use Rattle.rv_core.specs.Hart.{HartState, advanced}
use Rattle.rv_core.specs.Memory.{Memory}
use Rattle.rv_core.specs.declared.bus.Cause.TheVariants.{Breakpoint}
use Rattle.rv_core.specs.declared.operation.Operation.{Operation}
use Rattle.rv_core.specs.declared.operation.Operation.TheVariants.{Write, Jump, Branch, Load}
use Rattle.rv_core.specs.declared.operation.Operation.TheVariants.{LoadSigned, Store, Next, Call}
use Rattle.rv_core.specs.declared.operation.Operation.TheVariants.{Break}

abbrev pub meaning : Operation → Memory → HartState → Effect
meaning (Write rd value) m h = writes h rd value
meaning (Jump rd target) m h = jumps h rd target
meaning (Branch taken imm) m h = branches h taken imm
meaning (Load rd a n) m h = loads_unsigned m h rd a n
meaning (LoadSigned rd a n) m h = loads_signed m h rd a n
meaning (Store a n value) m h = stores m h a n value
meaning Next m h = Completes (advanced h)
meaning Call m h = Calls (advanced h)
meaning Break m h = Faults Breakpoint

-- the register is one of 32, and the width 1, 2 or 4
abbrev pub IsFormed : Operation → Type 0
IsFormed (Write rd value) = rd < 32
IsFormed (Jump rd target) = rd < 32
IsFormed (Branch taken imm) = Unit {0}
IsFormed (Load rd a n) = (rd < 32) × IsWidth n
IsFormed (LoadSigned rd a n) = (rd < 32) × IsWidth n
IsFormed (Store a n value) = IsWidth n
IsFormed Next = Unit {0}
IsFormed Call = Unit {0}
IsFormed Break = Unit {0}
