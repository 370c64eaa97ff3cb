-- The end of a wait, and how many there were.
use Rattle.std.specs.Prelude.{ℕ}
use Rattle.tx_types.specs.declared.waits.End.{End}
use Rattle.tx_types.specs.declared.waits.Totals.{Totals}

-- a wait that ended, by its number, and how
pub record WaitEnd : Type 0 where
  pub wait : ℕ
  pub how : End

-- no wait began
abbrev pub no_waits : Totals
no_waits = record { begun = 0; satisfied = 0; timed_out = 0; aborted = 0; deleted = 0; gone = 0 }
