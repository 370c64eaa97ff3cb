-- Which reports have lines that fit their room.
use Rattle.std.specs.Prelude.{◌≡◌, ℕ, ◌<◌, ◌≤◌, List, All, length}
use Rattle.tx_types.specs.Limits.{slot_limit, cell_limit}
use Rattle.board_values.specs.declared.report.Report.{Report}

-- numbers of slots, no more than there are slots
pub record IsNumbers (numbers : List ℕ) : Type 0 where
  pub few : length numbers ≤ slot_limit
  pub small : All (λ n. n < slot_limit) numbers

-- what keeps each line within its room, and the number of lines within a word
pub record IsPrintable (r : Report) : Type 0 where
  pub held : IsNumbers r.held
  pub ready : IsNumbers r.ready
  pub modules : length r.modules ≤ slot_limit
  pub threads : length r.threads ≤ slot_limit
  pub regs : All (λ t. length t.regs ≡ 31) r.threads
  pub objects : length r.objects ≤ slot_limit
  pub waits : All (λ o. IsNumbers o.waits) r.objects
  pub devices : length r.devices ≤ slot_limit
  pub shows : length r.shows ≤ slot_limit
  pub cells : All (λ s. length s.cells ≤ cell_limit) r.shows
