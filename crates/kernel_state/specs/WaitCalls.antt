-- How a change treats the waits: by calls of their table, each of which may be made in its turn.
use Rattle.std.specs.Prelude.{◌≡◌, ℕ, true, false, List, [], All, Some}
use Rattle.suspend_lists.specs.Laws.{Call, MayCallAll, all_called, all_over}
use Rattle.suspend_lists.specs.Waits.{number_of}
use Rattle.tx_types.specs.End.{WaitEnd}
use Rattle.tx_types.specs.declared.waits.End.TheVariants.{Gone}
use Rattle.kernel_state.specs.Change.{Change}
use Rattle.kernel_state.specs.Kernel.{thread}
use Rattle.kernel_state.specs.Thread.{is_over}
use Rattle.kernel_state.specs.declared.kernel.Kernel.{Kernel}

-- a wait ends as Gone only where its thread is completed or terminated by the change
abbrev pub EndsWithItsThread : Kernel → Kernel → WaitEnd → Type 0
EndsWithItsThread k now d =
    d.how ≡ Gone
    → (t : ℕ) × (number_of k.waits t ≡ Some d.wait) × (is_over (thread k t).state ≡ false)
    × (is_over (thread now t).state ≡ true)

-- the waits are what calls of their table leave, and those that the change ends are what these end
pub record CallsWaits (k : Kernel) (c : Change) : Type 0 where
  pub calls : List Call
  pub waits : c.kernel.waits ≡ all_called k.waits calls
  pub may : MayCallAll k.waits calls
  pub ends : c.ends ≡ all_over k.waits calls
  pub gone : All (EndsWithItsThread k c.kernel) c.ends

-- a change that leaves waits and timeouts as they are
pub record LeavesWaits (k : Kernel) (c : Change) : Type 0 where
  pub waits : c.kernel.waits ≡ k.waits
  pub wheel : c.kernel.wheel ≡ k.wheel
  pub ends : c.ends ≡ []

-- a change by which no wait begins, and after which who was over is so still
pub record OnlyEnds (k now : Kernel) : Type 0 where
  pub numbers : (t n : ℕ) → number_of now.waits t ≡ Some n → number_of k.waits t ≡ Some n
  pub over : (t : ℕ) → is_over (thread k t).state ≡ true → is_over (thread now t).state ≡ true
