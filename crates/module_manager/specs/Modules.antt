-- Modules: their preambles, their places and their states.
use Rattle.std.specs.Prelude.{◌≡◌, ℕ, ◌≤◌, Bool, true, false, List, [], length, All, Option, None}
use Rattle.std.specs.Prelude.{Some, slice_set}
use Rattle.std.specs.List.{slice_index_or}
use Rattle.tx_types.specs.Limits.{module_limit}
use Rattle.module_loader.specs.Opening.{LiesAt, Begins}
use Rattle.module_loader.specs.Want.{HasSizes}
use Rattle.module_loader.specs.declared.placement.Placed.{Placed}
use Rattle.module_preamble.specs.Words.{words_of, has_callback}
use Rattle.module_preamble.specs.declared.words.Preamble.{Preamble}
use Rattle.rv_core.specs.declared.bus.Cause.{Cause}
use Rattle.module_manager.specs.declared.modules.Fault.{Fault}
use Rattle.module_manager.specs.declared.modules.Module.{Module}
use Rattle.module_manager.specs.declared.modules.ModuleState.{ModuleState}
use Rattle.module_manager.specs.declared.modules.ModuleState.TheVariants.{Loaded, Started, Stopped}
use Rattle.module_manager.specs.declared.modules.ModuleState.TheVariants.{Faulted}

-- the numbers of the states
abbrev pub module_state_number : ModuleState → ℕ
module_state_number Loaded = 0
module_state_number Started = 1
module_state_number Stopped = 2
module_state_number (Faulted f) = 3

-- a module can be started before its first start, and after a stop
abbrev pub may_start : ModuleState → Bool
may_start Loaded = true
may_start Started = false
may_start Stopped = true
may_start (Faulted f) = false

-- the fault of a faulted module, and its parts
abbrev pub fault_in : ModuleState → Option Fault
fault_in Loaded = None
fault_in Started = None
fault_in Stopped = None
fault_in (Faulted f) = Some f

abbrev pub fault_parts : Fault → ℕ × Cause × ℕ
fault_parts f = (f.thread, f.cause, f.pc)

-- a module that was placed and not started yet
abbrev pub loaded : Preamble × Placed → Module
loaded r = record { preamble = r.0; placed = r.1; state = Loaded }

-- the module of a number; past the last one, a preamble of zeros
abbrev pub module_at : List Module → ℕ → Module
module_at rows m =
    slice_index_or rows m (loaded (words_of [], record { code_base = 0; data_base = 0 }))

-- a module gets a state
abbrev pub with_state : List Module → ℕ → ModuleState → List Module
with_state rows m state = slice_set rows m (record (module_at rows m) { state = state })

-- a preamble has the sizes of an accepted image, its module lies at its place, and its threads
-- begin in its code
pub record IsPlaced (p : Preamble) (at : Placed) : Type 0 where
  pub sizes : HasSizes p
  pub lies : LiesAt p at
  pub start : Begins p p.start false
  pub callback : has_callback p ≡ true → Begins p p.callback true

-- what holds of every table of modules
pub record AreModules (rows : List Module) : Type 0 where
  pub at_most : length rows ≤ module_limit
  pub placed : All (λ r. IsPlaced r.preamble r.placed) rows
