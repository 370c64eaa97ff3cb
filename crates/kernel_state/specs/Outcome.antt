-- What a service leaves and answers. A row of the table of services reads so: its refusals from
-- left to right, each by `found`, `given` or `unless`, and then its change.
use Rattle.std.specs.Prelude.{ℕ, Bool, Option, None, Some, Result, Ok, Err, if◌then◌else◌}
use Rattle.tx_types.specs.Code.{success}
use Rattle.region_guard.specs.Memory.{Memory}
use Rattle.kernel_state.specs.Change.{Change, quiet}
use Rattle.kernel_state.specs.declared.answer.Answer.{Answer}
use Rattle.kernel_state.specs.declared.answer.Answer.TheVariants.{Code}
use Rattle.kernel_state.specs.declared.kernel.Kernel.{Kernel}

pub record Outcome : Type 0 where
  pub change : Change
  pub answer : Answer

-- a change is made, and the answer is this
abbrev pub answering : Change → Answer → Outcome
answering c a = record { change = c; answer = a }

abbrev pub done : Change → Outcome
done c = answering c (Code success)

-- kernel and memory are as given, and the answer is a status
abbrev pub answered : Kernel → Memory → ℕ → Outcome
answered k g c = answering (quiet k g) (Code c)

-- a refusal, where there is one, comes before the change
abbrev pub unless : Kernel → Memory → Option ℕ → Outcome → Outcome
unless k g None change = change
unless k g (Some c) change = answered k g c

-- the change is made to what was found, and where nothing was the service is refused
abbrev pub found : {A : Type 0} → Kernel → Memory → ℕ → Option A → (A → Outcome) → Outcome
found k g c None change = answered k g c
found k g c (Some x) change = change x

-- the change is made by what was given, and where that can't be had the service is refused
abbrev pub given : {A : Type 0} → Kernel → Memory → Result A ℕ → (A → Outcome) → Outcome
given k g (Err c) change = answered k g c
given k g (Ok x) change = change x

-- a refusal by a test
abbrev pub refused : Bool → ℕ → Option ℕ
refused b c = if b then Some c else None
