-- Whose the object slots are: a used slot is a started module's, and so is each grant of it.
use Rattle.std.specs.Prelude.{◌≡◌, ℕ, true, false, List, All}
use Rattle.module_manager.specs.Modules.{module_at}
use Rattle.module_manager.specs.declared.modules.Module.{Module}
use Rattle.module_manager.specs.declared.modules.ModuleState.TheVariants.{Started}
use Rattle.object_grants.specs.Slot.{is_granted, is_in}
use Rattle.object_grants.specs.declared.slot.Slot.{Slot}
use Rattle.object_grants.specs.declared.slot.SlotState.TheVariants.{Free}

-- module m is started; past the last module none is
abbrev pub IsStarted : List Module → ℕ → Type 0
IsStarted ms m = (module_at ms m).state ≡ Started

-- the owner of a slot that isn't free is started, and so is each module that was granted its object
pub record IsOwned (ms : List Module) (s : Slot) : Type 0 where
  pub owner : is_in Free s ≡ false → IsStarted ms s.owner
  pub grants : (m : ℕ) → is_granted m s ≡ true → IsStarted ms m

abbrev pub AreOwned : List Module → List Slot → Type 0
AreOwned ms slots = All (IsOwned ms) slots
